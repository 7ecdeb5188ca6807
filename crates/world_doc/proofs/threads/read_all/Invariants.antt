use Rattle.std.proofs.Common.{◌≡◌, drop, length}
use Rattle.serde_json.specs.View.{items_view}
use Rattle.world_doc_terms.specs.Entries.{threads_of}
use Rattle.world_doc_stores.proofs.Steps.{onto}
use Rattle.world_doc.specs.Called.{called_of}
use Rattle.world_doc.proofs.threads.read_all.Given as goal

abbrev pub invariant-loop-item : goal.invariant-loop-item
invariant-loop-item l = record {
  so_far : threads_of l.code l.names (called_of l.called.entries) (items_view l.items) ≡ onto l.threads.items (threads_of l.code l.names (called_of l.called.entries) (items_view (drop l.item-index l.items)));
  count : length l.threads.items ≡ l.item-index;
}
