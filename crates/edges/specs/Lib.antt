pub mod Signed
pub mod Three
pub mod Turned
pub mod Bordered
pub mod Pairs
pub mod Rising
pub mod Steps
