pub mod Laws
pub mod Passing
pub mod Whole
pub mod Answers
pub mod Counting
mod Samples
