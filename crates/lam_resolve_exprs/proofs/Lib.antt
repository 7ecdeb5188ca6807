pub mod Sizes
pub mod ValueSteps
pub mod Arms
pub mod Arguments
