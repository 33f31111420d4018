pub mod Counts
pub mod Pages
