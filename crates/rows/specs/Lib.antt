pub mod Went
pub mod Again
