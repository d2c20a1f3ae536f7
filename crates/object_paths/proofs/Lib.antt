pub mod Listing
pub mod Places
pub mod PlainWays
pub mod Puts
