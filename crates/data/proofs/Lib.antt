pub mod Over
mod Pieces
mod Again
pub mod Characters
pub mod Stretched
mod Turns
pub mod Held
mod Single
