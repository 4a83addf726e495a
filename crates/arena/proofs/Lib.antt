pub mod Bits
pub mod Lowest
pub mod BoardLaws
pub mod Parts
pub mod Firsts
pub mod Searches
pub mod Walks
