pub mod Priorities
pub mod Tasks
