pub mod Each
pub mod Holds
pub mod RoundsOfTasks
pub mod Sendable
pub mod Tasks
pub mod Turns
pub mod Whole
pub mod Zips
