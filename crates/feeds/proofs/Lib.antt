pub mod Pieces
mod Spans
pub mod Ahead
mod Passing
pub mod Worded
pub mod Front
