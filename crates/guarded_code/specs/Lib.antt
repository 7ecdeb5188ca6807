pub mod Rounds
pub mod Descriptions
pub mod Changes
pub mod Breaks
pub mod Says
pub mod Facts
pub mod Samples
pub use Rattle.thread_steps.specs.Ops
