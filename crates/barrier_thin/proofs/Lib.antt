pub mod Rows
pub mod Thinned
pub mod Moving
pub mod Building
pub mod Acting
pub use Rattle.compiled_code_guarded.proofs.Units as CompiledCodeGuardedUnits
