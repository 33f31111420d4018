pub mod Index
pub mod Lines
