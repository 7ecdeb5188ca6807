pub mod Beginnings
pub mod Counting
pub mod Walking
pub mod Keeping
pub mod Departures
pub use Rattle.lam_machine_replay.specs.Stops
pub use Rattle.source_walk_meets.specs.Births
pub use Rattle.source_walk_meets.specs.Meets
