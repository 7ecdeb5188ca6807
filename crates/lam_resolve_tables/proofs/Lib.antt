pub mod Options
pub mod Sizes
pub mod Types
pub mod TableSteps
pub mod NamedLemmas
