mod Naming
pub mod Found
mod Judging
pub mod Sparing
