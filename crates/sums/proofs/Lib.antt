mod Taken
mod Asked
pub mod Left
pub mod Cycles
pub mod Exact
pub mod Adds
pub mod Free
pub mod Statements
pub mod Bodies
pub mod Runs
