pub mod Squeezed
pub mod Intake
pub mod Calls
pub mod Answers
