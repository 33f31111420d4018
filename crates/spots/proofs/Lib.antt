pub mod Following
pub mod Spotting
pub mod Entering
pub mod Tabling
pub mod Accepting
pub mod Joined
