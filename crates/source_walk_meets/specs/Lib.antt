pub mod Births
pub mod Meets
pub use Rattle.source_walk_terms.specs.Runs
pub use Rattle.source_walk_terms.specs.Walks
