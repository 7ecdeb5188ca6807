pub mod Seen
pub mod Meets
pub mod Parts
