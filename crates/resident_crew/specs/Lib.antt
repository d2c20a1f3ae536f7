pub mod Agreement
pub mod Outcome
pub mod Scans
pub mod Words
