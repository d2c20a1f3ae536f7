pub mod Asked
pub mod Auditors
pub mod Facts
pub mod InMemory
pub mod Outcome
pub mod State
