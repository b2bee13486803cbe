pub mod Events
pub mod Links
pub mod Pieces
pub mod Placing
pub mod Report
pub mod Stretches
pub mod Texts
