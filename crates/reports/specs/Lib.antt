pub mod Report
pub mod Read
