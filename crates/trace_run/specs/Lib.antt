pub mod Audits
pub mod Facts
pub mod Lines
pub mod Outcome
pub mod Program
pub mod Progress
pub mod Turn
