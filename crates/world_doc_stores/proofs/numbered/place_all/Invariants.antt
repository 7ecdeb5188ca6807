use Rattle.std.proofs.Common.{◌≡◌, drop}
use Rattle.serde_json.specs.View.{items_view}
use Rattle.world_doc_terms.specs.Numbered.{with_numbered_items}
use Rattle.world_doc_stores.proofs.numbered.place_all.Given as goal

abbrev pub invariant-loop-index : goal.invariant-loop-index
invariant-loop-index l = with_numbered_items l.names 0 l.initial.files (items_view l.items) ≡ with_numbered_items l.names l.index l.files (items_view (drop l.index l.items))
