pub mod Inputs
pub use Rattle.barrier_compiler.specs.Compiled
