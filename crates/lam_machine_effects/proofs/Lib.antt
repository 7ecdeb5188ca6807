pub use Rattle.lam_machine_terms.proofs.HeldLemmas
pub use Rattle.lam_machine_terms.proofs.QueueLemmas
pub use Rattle.lam_machine_terms.proofs.ThingLemmas
