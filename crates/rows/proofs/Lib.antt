pub mod Going
mod Showing
mod Spending
mod Placing
mod Repeating
mod Turning
