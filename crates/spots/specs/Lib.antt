pub mod Answers
pub mod Spots
