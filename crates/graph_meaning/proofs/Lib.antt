pub mod ByPaths
pub mod Computed
pub mod Counting
pub mod Distances
pub mod Edges
pub mod EdgesOfSlots
pub mod Flags
pub mod HeapLemmas
pub mod Keeping
pub mod Membership
pub mod Orders
mod Padding
pub mod Reaching
pub mod Rising
pub mod Showing
pub mod Tracing
pub mod Ways
pub mod Weak
