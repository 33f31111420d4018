mod Beginning
mod Going
pub mod Whole
