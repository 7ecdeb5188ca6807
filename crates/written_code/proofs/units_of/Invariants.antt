use Rattle.std.proofs.Common.{◌≡◌, ◌++◌, drop}
use Rattle.written_code.specs.Writing.{units_from}
use Rattle.written_code.proofs.units_of.Given as goal

abbrev pub invariant-loop-unit : goal.invariant-loop-unit
invariant-loop-unit l = units_from 0 l.written ≡ l.units.items ++ units_from l.regions (drop l.unit-index l.written)
