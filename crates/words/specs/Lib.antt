pub mod Cursor
pub mod Values
pub mod Table
pub mod Packed
pub mod Chains
pub mod Signs
