pub mod Answers
pub mod Waveforms
pub mod Charts
pub mod Indexes
pub mod Saves
