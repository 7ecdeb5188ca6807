use Rattle.code_verify.proofs.Sweeps.{first_swung, swung_on, swung_ends}
use Rattle.code_verify.proofs.sweep.swept.Goals as goal

pub loop-i-init : goal.loop-i-init
loop-i-init c = first_swung c.args.code.now c.args.unit.now _ c.in_ok-kept.ensures.ok c.in_ok-kept.ensures.len

pub loop-i-preserved : goal.loop-i-preserved
loop-i-preserved c =
    swung_on c.args.code.now c.args.unit.now _ _ _ c.as_slice-ops.ensures c.loop-i.invariant c.in_ok-changed.ensures.lowers c.in_ok-changed.ensures.len

pub returns-then-not-changed : goal.returns-then-not-changed
returns-then-not-changed c =
    swung_ends c.args.code.now c.args.unit.now _ _ _ _ c.as_slice-ops.ensures c.loop-i.invariant c.in_ok-changed.ensures.lowers c.in_ok-changed.ensures.len (c.in_ok-changed.ensures.ends c.if-not-changed.true)
