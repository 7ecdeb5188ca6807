pub mod Named
pub mod Entries
pub mod Kinds
pub mod Tables
pub mod Meets
pub use Rattle.lam_resolve_laws.specs.Resolved
