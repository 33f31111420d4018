pub mod Patterns
pub mod Running
pub mod Texts
