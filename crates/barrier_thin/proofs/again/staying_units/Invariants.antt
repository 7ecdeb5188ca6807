use Rattle.std.proofs.Common.{◌≡◌, map, take}
use Rattle.thinned_code.specs.Thinned.{staying_in}
use Rattle.barrier_thin.proofs.again.staying_units.Given as goal

abbrev pub invariant-loop-n : goal.invariant-loop-n
invariant-loop-n l = l.out.items ≡ map (staying_in l.code) (take l.n l.units)
