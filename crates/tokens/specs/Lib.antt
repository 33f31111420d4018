pub mod Written
pub mod Bytes
pub mod Refusals
pub mod Tokens
pub mod Answers
