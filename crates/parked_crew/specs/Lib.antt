pub mod Crews
pub mod Errands
pub mod Progress
pub mod Rounds
pub mod Seats
pub mod Shares
pub mod TaskCrews
