pub mod Known
pub mod Thins
pub mod Shows
pub mod Thinned
pub mod Decides
pub mod Texts
pub mod Steps
pub mod Needed
