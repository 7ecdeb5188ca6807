pub mod Keeping
pub mod Sound
pub use Rattle.lam_machine_valid.proofs.NextLemmas
pub use Rattle.lam_machine_valid.proofs.PrivateLemmas
pub use Rattle.lam_machine_valid.proofs.StoreLemmas
