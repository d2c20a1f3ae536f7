pub mod AfterSweep
pub mod Cleared
pub mod Limits
pub mod Operations
pub mod Stepping
pub mod Unasserted
