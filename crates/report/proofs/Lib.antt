mod Computed
pub mod Pieces
mod Ranges
pub mod RunTexts
pub mod Runs
