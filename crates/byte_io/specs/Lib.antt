pub mod Buffers
pub mod Bytes
pub mod Line
pub mod Pipe
pub mod Read
pub mod Shown
pub mod StdIo
