pub mod Commands
mod Listed
pub mod Matches
pub mod Meaning
mod Naming
pub mod Pointing
pub mod Splitting
