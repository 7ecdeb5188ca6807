pub mod Steps
pub mod Seen
pub mod Lines
pub mod Shown
pub mod Laws
pub mod Isolation
