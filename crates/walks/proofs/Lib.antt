pub mod Seen
pub mod Bodies
pub mod Loops
pub mod Passing
pub mod Arguments
pub mod Shifts
pub mod Visits
pub mod Rows
