use Rattle.std.proofs.Common.{◌≡◌, drop}
use Rattle.serde_json.specs.View.{items_view}
use Rattle.world_doc_terms.specs.Tags.{tags_of}
use Rattle.world_doc_stores.proofs.Steps.{onto}
use Rattle.world_doc_stores.proofs.tags.tags_of.Given as goal

abbrev pub invariant-loop-item : goal.invariant-loop-item
invariant-loop-item l = tags_of l.at l.names (items_view l.items) ≡ onto l.tags.items (tags_of l.at l.names (items_view (drop l.item-index l.items)))
