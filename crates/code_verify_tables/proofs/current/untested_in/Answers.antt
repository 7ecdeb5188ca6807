use Rattle.std.proofs.Common.{arith, ◌+◌}
use Rattle.code_verify_tables.proofs.Deepest.{none_after, one_less}
use Rattle.code_verify_tables.proofs.current.untested_in.Goals as goal

pub loop-i-init : goal.loop-i-init
loop-i-init c = λ n e. none_after _ c.args.part.now n (omega (arith, e))

pub returns-then-is_untested_copy-clause-same : goal.returns-then-is_untested_copy-clause-same
returns-then-is_untested_copy-clause-same c =
    let lt = c.loop-i-test.true in c.loop-i.invariant _ (omega (arith, lt))

pub loop-i-preserved : goal.loop-i-preserved
loop-i-preserved c = λ n e.
    let lt = c.loop-i-test.true in
    one_less _ c.args.part.now n _ _ (omega (arith, e, lt)) (omega (arith, e)) (c.is_untested_copy.ensures c.if-is_untested_copy.false) (c.loop-i.invariant (n + 1) (omega (arith, e)))

pub returns-clause-same : goal.returns-clause-same
returns-clause-same c = let no = c.loop-i-test.false in let far = c.loop-i.auto.i-end in c.loop-i.invariant 0 (omega (arith, no, far))
