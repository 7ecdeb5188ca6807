pub mod StepLemmas
pub mod Readings
pub mod TreeLemmas
pub mod StartLemmas
