pub mod CellTaskLemmas
pub mod Edgeless
