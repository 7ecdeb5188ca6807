pub mod Entries
pub mod Seen
pub mod Trees
pub use Rattle.lam_value.specs.Homes
pub use Rattle.lam_value.specs.declared.names.Name
