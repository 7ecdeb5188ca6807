pub mod Thinned
pub mod Facts
pub mod Samples
