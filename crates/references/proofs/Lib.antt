pub mod Filling
pub mod Behind
mod Stepping
mod Going
pub mod Whole
pub mod Parted
pub mod Labelled
pub mod Apart
mod Samples
