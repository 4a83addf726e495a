pub mod Refusals
pub mod Meaning
pub mod Answers
pub mod Laws
pub mod Words
