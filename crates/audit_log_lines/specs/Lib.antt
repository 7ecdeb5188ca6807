pub mod Kept
pub use Rattle.audit_log.specs.Log
pub use Rattle.lam_machine_replay.specs.Keeping
pub use Rattle.lam_machine_replay.specs.Stops
pub use Rattle.lam_machine_replay.specs.declared.fault.RunFault
