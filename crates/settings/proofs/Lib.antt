pub mod Digits
pub mod Ranges
pub mod Taken
pub mod Words
