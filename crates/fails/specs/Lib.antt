pub mod Fails
pub mod Once
pub mod Judged
pub mod Written
pub mod Referred
pub mod Service
