pub mod Causes
pub mod Counts
pub mod Memory
pub mod Sinks
pub mod Streams
