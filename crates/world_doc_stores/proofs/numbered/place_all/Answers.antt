use Rattle.std.proofs.lemmas.Result.{err_from_is_err_and}
use Rattle.world_doc_stores.proofs.ItemLemmas.{one_numbered, not_numbered}
use Rattle.world_doc_stores.proofs.numbered.place_all.Goals as goal

pub loop-index-preserved : goal.loop-index-preserved
loop-index-preserved c = one_numbered c.args.names.now c.args.items.now c.loop-index.index c.index-items-index.result c.loop-index.files c.place_numbered.new.files _ c.loop-index-test.true c.index-items-index.is c.loop-index.invariant c.in_ok-place_numbered.ensures

pub returns-in_err-place_numbered : goal.returns-in_err-place_numbered
returns-in_err-place_numbered c =
    let p = err_from_is_err_and c.from_residual.result c.from_residual.ensures.1 in
    rw (p.1, p.2) (not_numbered c.args.names.now c.in_err-place_numbered.field-0.0 c.args.items.now c.loop-index.index c.index-items-index.result c.loop-index.files _ c.loop-index-test.true c.index-items-index.is c.loop-index.invariant c.in_err-place_numbered.ensures)
