pub mod Flat
pub mod Joins
pub mod Jumps
pub mod ExprArms
pub mod Labels
pub mod Arms
