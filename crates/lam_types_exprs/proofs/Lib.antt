pub mod Law
pub mod Loops
pub mod Arms
