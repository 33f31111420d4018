pub mod Pieces
pub mod Flat
pub mod Shapes
pub mod Layout
pub mod Walk
pub mod Fold
pub mod Same
