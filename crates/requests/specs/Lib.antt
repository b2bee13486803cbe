pub mod Asked
pub mod Jobs
pub mod Names
pub mod Options
pub mod Processors
pub mod Shown
pub mod Words
