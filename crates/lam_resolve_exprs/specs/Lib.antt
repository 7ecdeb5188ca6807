pub mod Meets
pub mod Values
