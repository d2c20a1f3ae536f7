pub mod AllOwnees
pub mod Counts
pub mod Found
