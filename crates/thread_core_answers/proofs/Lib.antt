pub mod Leaving
pub mod Keeping
pub mod Going
pub mod Tops
pub mod Outermost
pub mod Held
pub use Rattle.thread_core.proofs.Untested
