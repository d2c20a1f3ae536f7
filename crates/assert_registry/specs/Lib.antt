pub mod Assertions
pub mod ByCell
pub mod IdSet
pub mod Laws
