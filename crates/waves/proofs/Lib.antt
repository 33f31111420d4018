mod Numbers
pub mod Turns
pub mod Lines
pub mod Fronts
pub mod Entries
