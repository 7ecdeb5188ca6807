pub mod Starts
pub mod Standing
pub mod Entries
pub mod Documents
pub mod Saved
pub mod Entered
pub use Rattle.guarded_code_runs.specs.Worlds
