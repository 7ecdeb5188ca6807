pub use Rattle.labelled_heap.proofs.ThingLemmas
pub use Rattle.labelled_pipes.proofs.QueueLemmas
pub use Rattle.monitor_core.proofs.HeldLemmas
