pub mod Dealt
pub mod HeldCells
