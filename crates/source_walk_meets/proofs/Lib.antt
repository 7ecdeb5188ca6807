pub mod Lists
mod Asks
mod Turns
pub mod Runs
pub mod Began
mod OneAnswer
pub use Rattle.source_walk_terms.proofs.Alone
