pub mod ReadyLists
pub mod Schedule
pub mod StandsFor
