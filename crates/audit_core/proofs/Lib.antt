pub mod Collected
pub mod InDoubt
