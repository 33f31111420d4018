mod Handing
mod Opening
mod Sketching
mod Carrying
mod Writing
mod Restoring
pub mod Chained
pub mod Theorems
mod Flattening
mod Telling
