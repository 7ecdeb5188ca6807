use Rattle.std.proofs.Common.{ap, sym, ◌∙◌, ◌+◌, drop}
use Rattle.std.proofs.lemmas.Result.{err_from_is_err_and}
use Rattle.world_doc_terms.specs.Tags.{tags_of}
use Rattle.serde_json.specs.View.{items_view}
use Rattle.world_doc_stores.proofs.Steps.{onto, onto_nil}
use Rattle.world_doc_stores.proofs.ListLemmas.{tags_more, tags_stop}
use Rattle.world_doc_stores.proofs.tags.tags_of.Goals as goal

pub loop-item-init : goal.loop-item-init
loop-item-init c = onto_nil (tags_of c.args.at.now c.args.names.now (items_view c.args.items.now)) ∙ ap (λ done. onto done (tags_of c.args.at.now c.args.names.now (items_view c.args.items.now))) (sym c.new-tags.ensures.items)

pub loop-item-preserved : goal.loop-item-preserved
loop-item-preserved c =
    tags_more c.args.at.now c.args.names.now c.args.items.now c.loop-item.item-index c.item-item.result c.loop-item.tags.items _ _ c.loop-item-test.true c.item-item.is c.loop-item.invariant c.in_ok-read_tag.ensures
    ∙ ap (λ done. onto done (tags_of c.args.at.now c.args.names.now (items_view (drop (c.loop-item.item-index + 1) c.args.items.now)))) (sym c.in_ok-push.ensures.items)

pub returns-in_err-read_tag : goal.returns-in_err-read_tag
returns-in_err-read_tag c =
    let p = err_from_is_err_and c.from_residual.result c.from_residual.ensures.1 in
    rw (p.1, p.2) (tags_stop c.in_err-read_tag.field-0.0 c.args.at.now c.args.names.now c.args.items.now c.loop-item.item-index c.item-item.result c.loop-item.tags.items _ c.loop-item-test.true c.item-item.is c.loop-item.invariant c.in_err-read_tag.ensures)
