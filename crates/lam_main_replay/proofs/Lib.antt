pub mod FileLemmas
pub mod ReportLemmas
pub mod RunLemmas
mod KeepLemmas
pub use Rattle.lam_main_plan.proofs.BookLemmas
pub use Rattle.lam_main_plan.proofs.ReadLemmas
