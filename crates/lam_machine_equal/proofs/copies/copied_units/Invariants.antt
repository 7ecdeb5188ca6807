use Rattle.std.proofs.Common.{◌≡◌, take}
use Rattle.lam_machine_equal.proofs.copies.copied_units.Given as goal

abbrev pub invariant-loop-unit : goal.invariant-loop-unit
invariant-loop-unit l = l.out.items ≡ take l.unit-index l.units
