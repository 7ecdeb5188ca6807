use Rattle.std.proofs.Common.{◌≡◌, ◌++◌, drop}
use Rattle.lam_resolve_laws.specs.Resolved.{slots_of}
use Rattle.lam_resolve_units.specs.Seen.{captured}
use Rattle.lam_resolve_units.proofs.units.slots_of.Given as goal

abbrev pub invariant-loop-capture : goal.invariant-loop-capture
invariant-loop-capture l = l.slots.items ++ slots_of (captured (drop l.capture-index l.captures)) ≡ slots_of (captured l.captures)
