pub mod Audited
pub mod Checked
pub mod Comparing
pub mod Differences
pub mod Reports
pub mod States
pub mod Words
