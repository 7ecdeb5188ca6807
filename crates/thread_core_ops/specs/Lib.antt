pub mod Untested
pub use Rattle.thread_core_calls.specs.Reaching
