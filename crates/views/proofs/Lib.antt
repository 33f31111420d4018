mod Viewing
pub mod Theorems
