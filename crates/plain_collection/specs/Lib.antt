pub mod Counting
pub mod PlainTraces
pub mod Verdicts
