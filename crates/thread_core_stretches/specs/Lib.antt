pub mod Simple
pub mod Stretches
pub use Rattle.thread_core.specs.Turning
pub use Rattle.thread_core.specs.Untested
