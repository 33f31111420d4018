pub mod Memo
pub mod Tracks
