pub mod Seen
pub mod Statement
pub mod Turns
pub mod Passed
pub mod Spent
pub mod Written
