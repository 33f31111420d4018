pub mod Bodies
pub mod Blocks
