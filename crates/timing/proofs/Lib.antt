pub mod Making
mod EventLetters
pub mod EventTimes
pub mod EventReading
pub mod Marking
pub mod Places
pub mod Watching
pub mod EntryReading
pub mod TableReading
