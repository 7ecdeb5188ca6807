pub mod Saved
pub mod Bounds
pub mod Lengths
