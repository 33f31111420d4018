pub mod References
pub mod Filled
