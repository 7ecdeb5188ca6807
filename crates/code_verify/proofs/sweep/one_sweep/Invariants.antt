use Rattle.code_verify.proofs.Sweeps.{SoFar}
use Rattle.code_verify.proofs.sweep.one_sweep.Given as goal

abbrev pub invariant-loop-at : goal.invariant-loop-at
invariant-loop-at l = SoFar l.code l.ops l.initial.kept.items l.kept.items l.ahead.items l.at l.fallen l.flags.items l.changed
