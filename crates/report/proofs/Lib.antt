pub mod Adding
mod Again
pub mod EndStates
pub mod Fronts
pub mod Lanes
pub mod Numbers
pub mod Rows
mod Shards
pub mod Short
pub mod Rendering
pub mod Views
