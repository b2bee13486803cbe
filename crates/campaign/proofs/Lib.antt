mod Blocks
pub mod Counters
mod Determined
mod Ends
pub mod Faulty
mod GoingOn
mod Jobs
mod Keeping
mod Multiplicity
pub mod Naming
mod Seeing
mod Started
mod Whole
