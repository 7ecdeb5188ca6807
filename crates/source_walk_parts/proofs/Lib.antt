pub mod Calls
pub mod Steps
pub mod Reached
pub mod Taken
