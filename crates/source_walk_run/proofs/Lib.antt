pub mod Sorts
pub mod Programs
mod Counts
mod Starting
mod Moving
mod OneMore
mod Placing
mod Told
pub use Rattle.source_walk_meets.proofs.Lists
pub use Rattle.source_walk_meets.proofs.Runs
