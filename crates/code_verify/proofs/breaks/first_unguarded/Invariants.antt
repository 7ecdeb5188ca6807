use Rattle.std.proofs.Common.{◌≡◌, drop}
use Rattle.guarded_code.specs.Breaks.{is_guarded, first_failing}
use Rattle.code_verify.proofs.breaks.first_unguarded.Given as goal

abbrev pub invariant-loop-i : goal.invariant-loop-i
invariant-loop-i l = first_failing is_guarded 0 l.ops l.table ≡ first_failing is_guarded l.i (drop l.i l.ops) (drop l.i l.table)
