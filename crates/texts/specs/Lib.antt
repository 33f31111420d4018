pub mod Texts
pub mod Patterns
pub mod Tables
pub mod Run
pub mod Told
