pub mod Acting
pub mod EndStates
pub mod Explorations
pub mod Obeying
pub mod Passing
