pub mod Above
pub mod Fronts
pub mod Stacks
pub mod Steps
pub mod Tables
pub mod Threads
