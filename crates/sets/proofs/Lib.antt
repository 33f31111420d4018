pub mod Sets
pub mod Tidy
