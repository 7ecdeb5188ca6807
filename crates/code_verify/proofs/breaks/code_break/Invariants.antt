use Rattle.std.proofs.Common.{◌≡◌, drop}
use Rattle.guarded_code.specs.Breaks.{first_break_from}
use Rattle.code_verify.proofs.breaks.code_break.Given as goal

abbrev pub invariant-loop-n : goal.invariant-loop-n
invariant-loop-n l = first_break_from l.code 0 l.units ≡ first_break_from l.code l.n (drop l.n l.units)
