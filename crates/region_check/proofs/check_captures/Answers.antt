use Rattle.std.proofs.Common.{arith}
use Rattle.std.proofs.lemmas.Result.{err_from_is_err_and}
use Rattle.region_check.specs.Values.{texts}
use Rattle.region_check.proofs.Sets.{capture_stop, capture_next}
use Rattle.region_check.proofs.check_captures.Goals as goal

pub returns-in_err-check_capture : goal.returns-in_err-check_capture
returns-in_err-check_capture c =
    let p = err_from_is_err_and c.from_residual.result c.from_residual.ensures.1 in
    rw (p.1, p.2) (capture_stop c.in_err-check_capture.field-0.0 c.args.inside (texts c.args.own.now.keys) (texts c.loop-x.seen.keys) c.args.xs.now c.loop-x.x-index c.x-item.result _ (omega arith) c.x-item.is c.loop-x.invariant c.in_err-check_capture.ensures.meets)

pub loop-x-preserved : goal.loop-x-preserved
loop-x-preserved c =
    capture_next c.args.inside (texts c.args.own.now.keys) (texts c.loop-x.seen.keys) (texts c.add_name.new.own.keys) c.args.xs.now c.loop-x.x-index c.x-item.result c.as_str.result.now _ (omega arith) c.x-item.is c.loop-x.invariant
    c.in_ok-check_capture.ensures.meets c.in_ok-check_capture.ensures.fresh c.as_str.ensures.value c.in_ok-add_name.ensures.adds
