pub mod Preparing
pub mod Coding
pub use Rattle.thread_core.specs.Turning
pub use Rattle.thread_core.specs.Untested
pub use Rattle.thread_core.specs.declared.turn.Turn
