pub mod Slots
pub mod Heads
pub mod Memory
pub mod Enough
pub mod Stamps
pub mod Coded
