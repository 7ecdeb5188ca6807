pub mod Acts
pub mod Examples
pub mod Gathers
pub mod Joined
pub mod Lone
pub use Rattle.lam_meaning_typed.specs.Nested
