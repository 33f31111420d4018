mod Copying
pub mod Repeating
