pub mod Regions
pub use Rattle.lam_resolve_units.specs.Seen
