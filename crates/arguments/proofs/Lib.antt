pub mod Lists
pub mod Fits
pub mod Counted
mod Named
pub mod Read
pub mod Supplying
mod Reading
mod Choosing
mod Blocks
