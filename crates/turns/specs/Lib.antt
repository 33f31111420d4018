pub mod Few
pub mod Steps
