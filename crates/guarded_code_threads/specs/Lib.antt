pub mod Described
pub mod Answers
pub mod Accesses
pub mod Laws
pub mod Samples
pub use Rattle.guarded_code.specs.Breaks
