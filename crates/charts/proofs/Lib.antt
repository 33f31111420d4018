pub mod Fronts
pub mod Rooms
pub mod Telling
mod Lists
mod Sighting
mod Drawing
mod Turns
