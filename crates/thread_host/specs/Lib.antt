pub mod Visits
pub mod Stretching
pub mod Sharing
pub mod Origins
pub use Rattle.thread_host_run.specs.Runs
