pub mod Seen
pub mod Least
