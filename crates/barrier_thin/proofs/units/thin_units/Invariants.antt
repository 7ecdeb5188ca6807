use Rattle.std.proofs.Common.{◌≡◌, ◌++◌, drop}
use Rattle.barrier_thin.specs.Units.{thin_each}
use Rattle.barrier_thin.proofs.units.thin_units.Given as goal

abbrev pub invariant-loop-n : goal.invariant-loop-n
invariant-loop-n l = l.out.items ++ thin_each (drop l.n l.staying) (drop l.n l.units) ≡ thin_each l.staying l.units
