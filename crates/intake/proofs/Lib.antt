mod Bytes
mod Stores
mod Turns
mod Pieces
mod Stands
mod Whole
mod Joined
mod Same
pub mod Theorems
mod Samples
