pub mod Can
pub mod InCall
