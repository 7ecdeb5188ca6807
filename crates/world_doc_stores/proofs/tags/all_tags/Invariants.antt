use Rattle.std.proofs.Common.{◌≡◌, drop}
use Rattle.serde_json.specs.View.{items_view}
use Rattle.world_doc_terms.specs.Tags.{no_tags, with_tags}
use Rattle.world_doc_stores.specs.Seen.{tags_seen}
use Rattle.world_doc_stores.proofs.tags.all_tags.Given as goal

abbrev pub invariant-loop-item : goal.invariant-loop-item
invariant-loop-item l = with_tags l.version no_tags (items_view l.items) ≡ with_tags l.version (tags_seen l.tags) (items_view (drop l.item-index l.items))
