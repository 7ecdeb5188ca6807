use Rattle.std.proofs.Common.{◌≡◌, drop}
use Rattle.guarded_code.specs.Breaks.{takes_kinds, first_failing}
use Rattle.code_verify.proofs.breaks.first_wrong_kind.Given as goal

abbrev pub invariant-loop-i : goal.invariant-loop-i
invariant-loop-i l = first_failing (takes_kinds l.code) 0 l.ops l.table ≡ first_failing (takes_kinds l.code) l.i (drop l.i l.ops) (drop l.i l.table)
