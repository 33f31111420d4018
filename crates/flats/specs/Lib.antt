pub mod Meant
pub mod Flattens
