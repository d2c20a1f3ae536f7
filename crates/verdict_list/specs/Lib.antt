pub mod Askings
pub mod Cells
pub mod Counts
pub mod Kinds
pub mod Listed
pub mod Ownership
pub mod Settling
pub mod Violating
