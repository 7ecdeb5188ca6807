pub mod OneLength
pub mod Readings
