pub mod Compared
pub mod Looping
pub mod AlikeSources
pub mod Parts
pub mod Either
pub mod Alike
pub mod Renewed
pub mod Waking
pub mod Switches
pub mod Acting
pub mod Continuing
pub mod Booting
mod Fronts
pub mod Beside
pub mod Pending
pub mod Arriving
