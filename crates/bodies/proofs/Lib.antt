pub mod Noting
mod Turning
mod Entering
mod Allowed
mod Rowing
mod Shifting
mod Telling
mod Stating
mod Beginning
mod Reading
pub mod Callers
mod Declaring
mod Ordering
