pub mod Samples
pub mod Types
pub mod Regions
