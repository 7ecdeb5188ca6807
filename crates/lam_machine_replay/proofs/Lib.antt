mod RunLemmas
pub mod ProductLemmas
mod PublicLemmas
mod TakesLemmas
pub mod SeenLemmas
mod NotedLemmas
mod CountLemmas
pub use Rattle.lam_machine.proofs.ManyPrivateLemmas
