pub mod Counted
pub mod Tagged
pub mod Counts
pub mod Tags
