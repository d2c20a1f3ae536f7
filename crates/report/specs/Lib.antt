pub mod Examples
pub mod Pieces
pub mod Report
pub mod Run
pub mod Text
