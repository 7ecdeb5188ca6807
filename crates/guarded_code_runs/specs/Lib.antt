pub mod Worlds
pub mod Laws
pub use Rattle.guarded_code_threads.specs.Laws as GuardedCodeThreadsLaws
pub use Rattle.lam_machine_valid.specs.Living
