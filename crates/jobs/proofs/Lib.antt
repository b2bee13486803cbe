pub mod Lines
mod Putting
mod Serving
pub mod EndStates
pub mod Explorations
