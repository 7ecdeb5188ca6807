use Rattle.std.proofs.Common.{◌≡◌, take}
use Rattle.lam_machine_equal.proofs.copies.copied_values.Given as goal

abbrev pub invariant-loop-value : goal.invariant-loop-value
invariant-loop-value l = l.out.items ≡ take l.value-index l.values
