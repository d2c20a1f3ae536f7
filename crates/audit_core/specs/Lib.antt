pub mod Audit
pub mod Cells
pub mod Verdicts
