pub mod Starts
pub mod Moved
