pub mod Faults
pub mod Compiled
