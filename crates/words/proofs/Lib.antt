pub mod Flow
mod Ahead
pub mod Choice
pub mod Loops
pub mod Words
pub mod Numbers
mod Tables
mod Packed
pub mod Names
mod Chains
mod Signs
