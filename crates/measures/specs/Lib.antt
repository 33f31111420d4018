pub mod Measures
pub mod Uses
pub mod Book
