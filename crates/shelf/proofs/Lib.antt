pub mod Along
mod Begun
pub mod Joining
mod Walking
mod Whole
