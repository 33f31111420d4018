mod Written
mod Turns
mod Rows
pub mod Puts
mod Putting
mod Supplying
mod Skipping
pub mod Search
pub mod Callers
mod Advancing
mod Cycles
