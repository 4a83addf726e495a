pub mod Traces
pub mod Collections
pub mod Collect
pub mod Keeping
pub mod Remembering
pub mod Lent
