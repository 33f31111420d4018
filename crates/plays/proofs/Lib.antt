pub mod Supply
pub mod Fitting
pub mod Following
pub mod Heading
pub mod Keeping
pub mod Tracks
mod Alone
pub mod Stepping
pub mod Shifting
pub mod Turning
mod Seconds
pub mod Going
pub mod Entering
pub mod Single
pub mod Patterns
pub mod Running
pub mod Texts
pub mod Summing
mod Marks
mod Passing
mod Recalling
