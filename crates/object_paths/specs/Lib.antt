pub mod Findings
pub mod PlainPaths
pub mod Prefixes
pub mod References
