pub mod Boards
pub mod Segments
pub mod Buffers
pub mod Runs
