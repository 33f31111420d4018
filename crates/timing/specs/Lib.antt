pub mod Makes
pub mod Events
pub mod Marks
pub mod Parts
pub mod Held
pub mod Watch
