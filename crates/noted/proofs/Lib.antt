pub mod Marking
pub mod Reading
mod Covering
