mod Answering
mod Outlining
pub mod Shaping
mod Charting
mod Indexing
mod Mending
pub mod Theorems
