pub mod Exact
pub mod Stepping
pub mod Going
