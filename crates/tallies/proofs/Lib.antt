pub mod Stored
pub mod Grown
mod Rows
mod Narrowed
mod Showing
pub mod Others
mod Asking
mod Reading
mod Feeding
mod Entering
mod Calling
mod Fitting
mod Signals
