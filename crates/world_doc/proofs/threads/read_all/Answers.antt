use Rattle.std.proofs.Common.{◌+◌, length, drop, ap, sym, ◌∙◌}
use Rattle.std.proofs.lemmas.List.{length-append}
use Rattle.std.proofs.lemmas.Result.{err_from_is_err_and}
use Rattle.serde_json.specs.View.{items_view}
use Rattle.world_doc_terms.specs.Entries.{threads_of}
use Rattle.world_doc_stores.proofs.Steps.{onto, onto_nil}
use Rattle.world_doc.specs.Called.{called_of}
use Rattle.world_doc.proofs.ListLemmas.{threads_more, threads_stop}
use Rattle.world_doc.proofs.threads.read_all.Goals as goal

pub loop-item-init : goal.loop-item-init
loop-item-init c =
    let rs = threads_of c.args.code.now c.args.names.now (called_of c.args.called.now.entries) (items_view c.args.items.now) in
    record {
      so_far = onto_nil rs ∙ ap (λ done. onto done rs) (sym c.new-threads.ensures.items);
      count = ap length c.new-threads.ensures.items;
    }

pub loop-item-preserved : goal.loop-item-preserved
loop-item-preserved c =
    record {
      so_far =
          threads_more c.args.code.now c.args.names.now (called_of c.args.called.now.entries) c.args.items.now c.loop-item.item-index c.item-item.result c.loop-item.threads.items _ _ c.loop-item-test.true c.item-item.is c.loop-item.invariant.so_far c.in_ok-thread.ensures
          ∙ ap (λ done. onto done (threads_of c.args.code.now c.args.names.now (called_of c.args.called.now.entries) (items_view (drop (c.loop-item.item-index + 1) c.args.items.now)))) (sym c.in_ok-push.ensures.items);
      count = ap length c.in_ok-push.ensures.items ∙ length-append c.loop-item.threads.items _ ∙ ap (λ n. n + 1) c.loop-item.invariant.count;
    }

pub returns-in_err-thread-clause-gives : goal.returns-in_err-thread-clause-gives
returns-in_err-thread-clause-gives c =
    let p = err_from_is_err_and c.from_residual.result c.from_residual.ensures.1 in
    rw (p.1, p.2) (threads_stop c.args.code.now c.args.names.now (called_of c.args.called.now.entries) c.in_err-thread.field-0.0 c.args.items.now c.loop-item.item-index c.item-item.result c.loop-item.threads.items _ c.loop-item-test.true c.item-item.is c.loop-item.invariant.so_far c.in_err-thread.ensures)
