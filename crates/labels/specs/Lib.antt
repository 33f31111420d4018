pub mod Table
pub mod Joined
