use Rattle.std.proofs.Common.{◌+◌, drop, refl, sym, ap, ◌∙◌}
use Rattle.std.proofs.lemmas.Result.{err_from_is_err_and}
use Rattle.serde_json.specs.View.{items_view}
use Rattle.world_doc_terms.specs.Entries.{arguments}
use Rattle.world_doc_stores.proofs.Steps.{onto}
use Rattle.world_doc.specs.Called.{called_of}
use Rattle.world_doc.proofs.ListLemmas.{arguments_more, arguments_stop}
use Rattle.world_doc.proofs.args.arguments.Goals as goal

pub returns-in_err-value : goal.returns-in_err-value
returns-in_err-value c =
    let p = err_from_is_err_and c.from_residual.result c.from_residual.ensures.1 in
    rw (p.1, p.2)
    (arguments_stop c.args.names.now (called_of c.args.called.now.entries) c.in_err-value.field-0.0 c.args.takes.now c.args.items.now c.loop-at.at _ _ c.index-items-at.result c.loop-at.values _ c.in_err-value.ensures refl c.loop-at-test.true c.requires c.index-items-at.is c.loop-at.invariant)

pub loop-at-preserved : goal.loop-at-preserved
loop-at-preserved c =
    arguments_more c.args.names.now (called_of c.args.called.now.entries) c.args.takes.now c.args.items.now c.loop-at.at _ _ c.index-items-at.result c.loop-at.values c.in_ok-value.value _ c.in_ok-value.ensures refl c.loop-at-test.true c.requires c.index-items-at.is c.loop-at.invariant
    ∙ ap (λ done. onto done (arguments c.args.names.now (called_of c.args.called.now.entries) (drop (c.loop-at.at + 1) c.args.takes.now) (items_view (drop (c.loop-at.at + 1) c.args.items.now)))) (sym c.in_ok-push.ensures.ok)
