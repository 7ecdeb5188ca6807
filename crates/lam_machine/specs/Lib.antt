pub mod Machine
pub mod Asking
pub mod Privately
pub use Rattle.lam_machine_laws.specs.Turned
pub use Rattle.lam_machine_laws.specs.Sound
pub use Rattle.guarded_code_runs.specs.Worlds
