pub mod Names
pub mod Lists
mod Scanning
pub mod Left
mod Writing
pub mod Counts
pub mod Opening
pub mod Short
mod Samples
