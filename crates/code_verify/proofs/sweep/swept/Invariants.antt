use Rattle.code_verify.proofs.Sweeps.{Swung}
use Rattle.code_verify.proofs.sweep.swept.Given as goal

abbrev pub invariant-loop-i : goal.invariant-loop-i
invariant-loop-i l = Swung l.code l.unit l.kept.items
