mod Collected
pub mod Plans
pub mod Written
