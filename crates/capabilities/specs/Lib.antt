pub mod CapsText
pub mod Changes
pub mod Kinds
pub use Rattle.flow_labels.specs.Decimal
pub use Rattle.flow_labels.specs.Failing
pub use Rattle.flow_labels.specs.declared.Denied
