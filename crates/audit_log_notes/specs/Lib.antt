pub mod Notes
pub mod Sums
pub use Rattle.lam_machine_terms.specs.Turns
pub use Rattle.lam_machine_terms.specs.Views
