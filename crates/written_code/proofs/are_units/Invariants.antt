use Rattle.std.proofs.Common.{take}
use Rattle.std.specs.List.{All}
use Rattle.lam_bytecode.specs.Codes.{IsUnit}
use Rattle.written_code.proofs.are_units.Given as goal

abbrev pub invariant-loop-unit : goal.invariant-loop-unit
invariant-loop-unit l = All IsUnit (take l.unit-index l.units)
