pub mod Faults
pub mod Redundant
pub mod Stops
pub mod Sweeps
pub mod Tables
pub mod UnitBreaks
