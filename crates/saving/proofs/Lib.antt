pub mod Spaces
pub mod Marks
pub mod Repeating
pub mod Saved
pub mod Numbers
pub mod Entries
pub mod Noting
pub mod Mending
mod Scanning
mod Samples
