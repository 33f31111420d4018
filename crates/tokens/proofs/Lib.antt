pub mod Results
pub mod Bools
pub mod Allowed
pub mod Reading
pub mod Stream
pub mod Laws
pub mod Faults
pub mod Clean
mod Samples
