use Rattle.std.proofs.Common.{◌∙◌, ap, length}
use Rattle.code_verify.proofs.Handing.{no_round, goes_on, describe_ends, describe_stops, never_begins}
use Rattle.code_verify.proofs.rounds.describe_unit.Goals as goal

pub returns-in-Err-clause-err : goal.returns-in-Err-clause-err
returns-in-Err-clause-err c = never_begins c.args.code.now c.args.unit.now _ c.in-Err.ensures.err

pub returns-in-Err-round-clause-err : goal.returns-in-Err-round-clause-err
returns-in-Err-round-clause-err c =
    describe_stops c.args.code.now c.args.unit.now _ _ _ _ c.as_slice-ops.ensures c.loop-i.invariant.1 c.in-Err-round.ensures.err

pub returns-then-not-changed-clause-ok : goal.returns-then-not-changed-clause-ok
returns-then-not-changed-clause-ok c =
    describe_ends c.args.code.now c.args.unit.now _ _ _ _ c.as_slice-ops.ensures c.loop-i.invariant.1 c.in-Ok-round.ensures.ok (c.in-Ok-round.ensures.same c.if-not-changed.true)

pub loop-i-init : goal.loop-i-init
loop-i-init c = (c.in-Ok.ensures.len, no_round c.args.code.now c.args.unit.now _ c.in-Ok.ensures.ok)

pub loop-i-preserved : goal.loop-i-preserved
loop-i-preserved c =
    (c.in-Ok-round.ensures.len ∙ ap length c.as_slice-ops.ensures, goes_on c.args.code.now c.args.unit.now _ c.loop-i._i _ _ c.as_slice-ops.ensures c.loop-i.invariant.1 c.in-Ok-round.ensures.ok)
