mod Chains
mod Rows
mod Taking
pub mod Tidy
pub mod Tables
mod Joining
mod Declaring
