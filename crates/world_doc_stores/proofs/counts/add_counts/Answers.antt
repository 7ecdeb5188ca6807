use Rattle.std.proofs.Common.{refl, ap}
use Rattle.std.proofs.lemmas.Result.{err_from_is_err_and}
use Rattle.lam_value.specs.Homes.{raised}
use Rattle.labelled_files.specs.Trees.{Tree, public_home}
use Rattle.world_doc_stores.proofs.ItemLemmas.{one_counted, not_counted}
use Rattle.world_doc_stores.proofs.CounterLemmas.{counted_itself, counted_again}
use Rattle.world_doc_stores.proofs.counts.add_counts.Goals as goal

pub loop-item-init : goal.loop-item-init
loop-item-init c = record { so_far = refl; files = counted_itself c.args.files.now (raised c.args.counts.now public_home 1) c.requires }

pub add_count-requires : goal.add_count-requires
add_count-requires c = ap (λ (t : Tree). t.counts) c.loop-item.invariant.files

pub loop-item-preserved : goal.loop-item-preserved
loop-item-preserved c =
    record {
      so_far = one_counted c.args.names.now c.args.items.now c.loop-item.item-index c.item-item.result c.loop-item.counts c.add_count.new.counts _ c.loop-item-test.true c.item-item.is c.loop-item.invariant.so_far c.in_ok-add_count.ensures.gives;
      files = counted_again c.args.files.now c.loop-item.files c.add_count.new.files _ _ c.loop-item.invariant.files c.in_ok-add_count.ensures.files;
    }

pub returns-in_err-add_count-clause-gives : goal.returns-in_err-add_count-clause-gives
returns-in_err-add_count-clause-gives c =
    let p = err_from_is_err_and c.from_residual.result c.from_residual.ensures.1 in
    rw (p.1, p.2) (not_counted c.args.names.now c.in_err-add_count.field-0.0 c.args.items.now c.loop-item.item-index c.item-item.result c.loop-item.counts _ c.loop-item-test.true c.item-item.is c.loop-item.invariant.so_far c.in_err-add_count.ensures.gives)
