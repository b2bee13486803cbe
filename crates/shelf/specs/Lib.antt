pub mod Begun
pub mod Shelves
pub mod Rests
pub mod Walks
