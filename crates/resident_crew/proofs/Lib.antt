pub mod Agreeing
pub mod OwnedRuns
pub mod Tallies
pub mod Went
