mod Capped
pub mod Joined
mod Measured
pub mod Within
pub mod Counting
mod Changed
mod Marked
pub mod Uses
mod Counted
mod Kept
pub mod Book
