use Rattle.std.proofs.Common.{◌≡◌, drop}
use Rattle.std.specs.List.{list_any}
use Rattle.code_verify.specs.Redundant.{is_barrier}
use Rattle.code_verify.proofs.redundant.has_barrier.Given as goal

abbrev pub invariant-loop-at : goal.invariant-loop-at
invariant-loop-at l = list_any is_barrier l.ops ≡ list_any is_barrier (drop l.at l.ops)
