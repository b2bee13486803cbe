pub mod EventGroups
pub mod StandsFor
