pub mod Rows
pub mod Table
pub mod Read
pub mod Assigning
mod Turns
pub mod Callers
