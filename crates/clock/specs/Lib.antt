pub mod Timeline
pub mod StandsFor
