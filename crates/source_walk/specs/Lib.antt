pub mod Starts
pub mod Walking
pub use Rattle.source_walk_run.specs.Meets
