pub mod Saving
pub mod Steps
pub mod Found
pub mod Spans
pub mod Mends
