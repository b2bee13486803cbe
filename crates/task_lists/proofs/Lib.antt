pub mod Priorities
