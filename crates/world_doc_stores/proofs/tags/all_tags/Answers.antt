use Rattle.std.proofs.Common.{ap, sym}
use Rattle.std.proofs.lemmas.Result.{err_from_is_err_and}
use Rattle.serde_json.specs.View.{items_view}
use Rattle.world_doc_terms.specs.Tags.{with_tags}
use Rattle.world_doc_stores.specs.Seen.{tags_seen}
use Rattle.world_doc_stores.proofs.TagLemmas.{tag_made, no_tag_made}
use Rattle.world_doc_stores.proofs.tags.all_tags.Goals as goal

pub loop-item-init : goal.loop-item-init
loop-item-init c = ap (λ tags. with_tags c.args.version tags (items_view c.args.items.now)) (sym c.no_tags-tags.ensures)

pub loop-item-preserved : goal.loop-item-preserved
loop-item-preserved c =
    tag_made c.args.version c.args.items.now c.loop-item.item-index c.item-item.result (tags_seen c.loop-item.tags) (tags_seen c.add_tag.new.tags) _ c.loop-item-test.true c.item-item.is c.loop-item.invariant c.in_ok-add_tag.ensures

pub returns-in_err-add_tag : goal.returns-in_err-add_tag
returns-in_err-add_tag c =
    let p = err_from_is_err_and c.from_residual.result c.from_residual.ensures.1 in
    rw (p.1, p.2) (no_tag_made c.args.version c.in_err-add_tag.field-0.0 c.args.items.now c.loop-item.item-index c.item-item.result (tags_seen c.loop-item.tags) _ c.loop-item-test.true c.item-item.is c.loop-item.invariant c.in_err-add_tag.ensures)
