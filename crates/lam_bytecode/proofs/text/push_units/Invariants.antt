use Rattle.std.proofs.Common.{◌≡◌, ◌++◌, drop, string_bytes}
use Rattle.lam_bytecode.specs.Listing.{units_from}
use Rattle.lam_bytecode.proofs.text.push_units.Given as goal

abbrev pub invariant-loop-n : goal.invariant-loop-n
invariant-loop-n l = string_bytes l.text ++ units_from l.constants l.n (drop l.n l.units) ≡ string_bytes l.fn.text ++ units_from l.constants 0 l.units
