mod GuardedCode
mod Faults
pub use Rattle.barrier_compiler.proofs.Once as CompiledOnce
