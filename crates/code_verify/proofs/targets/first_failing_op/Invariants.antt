use Rattle.std.proofs.Common.{◌≡◌, drop}
use Rattle.guarded_code.specs.Breaks.{is_well_targeted, first_failing_op}
use Rattle.code_verify.proofs.targets.first_failing_op.Given as goal

abbrev pub invariant-loop-i : goal.invariant-loop-i
invariant-loop-i l = first_failing_op (is_well_targeted l.code l.unit) 0 l.ops ≡ first_failing_op (is_well_targeted l.code l.unit) l.i (drop l.i l.ops)
