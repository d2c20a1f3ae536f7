pub mod Adding
pub mod Bits
pub mod Marking
pub mod Moves
pub mod OwnWords
pub mod Sharing
pub mod Whole
pub mod WordSteps
