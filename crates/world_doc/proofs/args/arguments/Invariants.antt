use Rattle.std.proofs.Common.{◌≡◌, drop}
use Rattle.serde_json.specs.View.{items_view}
use Rattle.world_doc_terms.specs.Entries.{arguments}
use Rattle.world_doc_stores.proofs.Steps.{onto}
use Rattle.world_doc.specs.Called.{called_of}
use Rattle.world_doc.proofs.args.arguments.Given as goal

abbrev pub invariant-loop-at : goal.invariant-loop-at
invariant-loop-at l = arguments l.names (called_of l.called.entries) l.takes (items_view l.items) ≡ onto l.values (arguments l.names (called_of l.called.entries) (drop l.at l.takes) (items_view (drop l.at l.items)))
