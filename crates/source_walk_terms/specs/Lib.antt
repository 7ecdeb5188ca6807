pub mod Departs
pub mod Walks
pub use Rattle.lam_machine_means.specs.Meant
pub use Rattle.lam_machine_means.specs.Runs
