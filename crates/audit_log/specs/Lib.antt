pub mod Laws
pub mod Log
pub use Rattle.audit_log_notes.specs.Sums
