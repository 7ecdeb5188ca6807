pub mod Law
pub mod Steps
pub mod Arms
pub mod Sets
pub mod Outcome
