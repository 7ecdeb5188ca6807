pub mod Codes
pub mod Outcome
pub mod Closes
pub mod Checks
pub mod Plan
pub mod Answer
