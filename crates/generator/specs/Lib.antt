pub mod Draws
pub mod Plans
pub mod Text
