pub mod Kits
pub mod PassProps
pub mod Results
pub mod TracedCells
pub mod TracedHeaps
pub mod Traces
