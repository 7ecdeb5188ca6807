pub mod Laws
pub mod Moved
pub mod Matches
pub use Rattle.lam_meaning_laws.specs.Acts
