mod ByWord
mod Plain
pub mod ByNumber
mod Using
mod Heads
pub mod Callers
