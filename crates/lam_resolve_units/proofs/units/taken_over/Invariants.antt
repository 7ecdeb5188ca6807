use Rattle.std.proofs.Common.{◌≡◌, ◌++◌, drop}
use Rattle.lam_resolve_laws.specs.Resolved.{taken_over}
use Rattle.lam_resolve_tables.specs.Tables.{vars}
use Rattle.lam_resolve_units.specs.Seen.{captured}
use Rattle.lam_resolve_units.proofs.units.taken_over.Given as goal

abbrev pub invariant-loop-capture : goal.invariant-loop-capture
invariant-loop-capture l = vars l.vars.items ++ taken_over (captured (drop l.capture-index l.captures)) ≡ taken_over (captured l.captures)
