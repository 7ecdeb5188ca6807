pub mod Tree
pub mod Typing
pub mod Regions
pub mod Slots
pub mod Limits
