use Rattle.std.proofs.Common.{arith}
use Rattle.std.proofs.lemmas.Result.{err_from_is_err_and}
use Rattle.region_check.specs.Values.{texts}
use Rattle.region_check.proofs.Sets.{cap_stop, cap_next}
use Rattle.region_check.proofs.check_caps.Goals as goal

pub returns-in_err-check_read : goal.returns-in_err-check_read
returns-in_err-check_read c =
    let p = err_from_is_err_and c.from_residual.result c.from_residual.ensures.1 in
    rw (p.1, p.2) (cap_stop c.in_err-check_read.field-0.0 c.args.inside (texts c.args.own.now.keys) c.args.items.now c.loop-item.item-index c.item-item.result c.as_str.result.now _ (omega arith) c.item-item.is c.loop-item.invariant c.as_str.ensures.value c.in_err-check_read.ensures)

pub loop-item-preserved : goal.loop-item-preserved
loop-item-preserved c =
    cap_next c.args.inside (texts c.args.own.now.keys) c.args.items.now c.loop-item.item-index c.item-item.result c.as_str.result.now _ (omega arith) c.item-item.is c.loop-item.invariant c.as_str.ensures.value c.in_ok-check_read.ensures
