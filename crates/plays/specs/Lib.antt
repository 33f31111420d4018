pub mod Plays
pub mod Run
