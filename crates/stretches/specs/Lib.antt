pub mod Rows
pub mod Folding
