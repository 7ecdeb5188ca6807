pub mod Numbers
pub mod Places
pub mod Joins
pub mod Trees
pub mod UnitSteps
