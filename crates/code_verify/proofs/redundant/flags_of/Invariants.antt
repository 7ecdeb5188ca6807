use Rattle.std.proofs.Common.{◌≡◌, take}
use Rattle.code_verify.specs.Redundant.{redundant}
use Rattle.code_verify.proofs.redundant.flags_of.Given as goal

abbrev pub invariant-loop-at : goal.invariant-loop-at
invariant-loop-at l = l.flags.items ≡ take l.at (redundant l.ops l.table)
