pub mod Cutting
pub mod Reading
pub mod PointTexts
pub mod Forms
