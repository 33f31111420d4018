pub mod Laws
pub mod Chains
pub mod Scanning
pub mod Joining
pub mod Numbers
