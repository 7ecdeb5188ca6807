use Rattle.std.proofs.Common.{◌≡◌, drop}
use Rattle.lam_bytecode.specs.Codes.{named_from, unit_named}
use Rattle.lam_bytecode.proofs.code.find_function.Given as goal

abbrev pub invariant-loop-i : goal.invariant-loop-i
invariant-loop-i l = named_from l.i l.name (drop l.i l.units) ≡ unit_named l.name l.units
