pub mod Resolved
pub mod Names
