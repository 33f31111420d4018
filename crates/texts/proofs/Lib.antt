pub mod Meant
pub mod Ends
pub mod Sounds
pub mod Runs
mod Judging
mod Keeping
mod Naming
mod Blocks
mod Tabling
pub mod Deciding
mod Packing
