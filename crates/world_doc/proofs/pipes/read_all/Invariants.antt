use Rattle.std.proofs.Common.{◌≡◌, drop}
use Rattle.serde_json.specs.View.{items_view}
use Rattle.world_doc_terms.specs.Stores.{with_pipes}
use Rattle.world_doc.specs.Called.{pipes_of}
use Rattle.world_doc.proofs.pipes.read_all.Given as goal

abbrev pub invariant-loop-item : goal.invariant-loop-item
invariant-loop-item l = with_pipes l.names (pipes_of l.initial.pipes l.initial.called.entries) (items_view l.items) ≡ with_pipes l.names (pipes_of l.pipes l.called.entries) (items_view (drop l.item-index l.items))
