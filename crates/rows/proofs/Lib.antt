mod Cursors
mod Inboxes
mod LegByLeg
pub mod Linked
pub mod LookedUp
mod Pieces
pub mod Placed
mod Sending
mod Stretched
pub mod Totalling
