pub mod Codes
pub mod Listing
pub use Rattle.lam_builtins.specs.Builtins
pub use Rattle.lam_builtins.specs.declared.Builtin
