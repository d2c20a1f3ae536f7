pub mod AuditedReports
pub mod Comparisons
pub mod CutShort
pub mod Events
pub mod Lines
