pub mod Interface
pub mod Charts
pub mod Intakes
pub mod Indexes
pub mod Saves
pub mod Folds
pub mod Reports
