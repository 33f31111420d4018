mod Showing
mod Parting
mod Running
mod Whole
mod Pages
mod Folding
pub mod Theorems
