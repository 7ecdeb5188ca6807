pub mod Weights
pub mod States
pub mod Controls
pub mod Accesses
pub mod Wants
