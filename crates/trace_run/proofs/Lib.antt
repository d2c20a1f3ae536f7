pub mod Causes
pub mod Effects
pub mod Endings
mod Lines
mod LinesAhead
pub mod Progress
pub mod Reports
pub mod Runs
mod Turns
