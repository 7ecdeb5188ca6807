pub mod UnitSteps
pub mod PartSteps
