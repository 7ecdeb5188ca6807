use Rattle.std.proofs.Common.{◌≡◌, ◌++◌, drop}
use Rattle.lam_resolve_laws.specs.Resolved.{locals_from}
use Rattle.lam_resolve_tables.specs.Tables.{vars}
use Rattle.lam_resolve_exprs.specs.Values.{locals}
use Rattle.lam_resolve_units.proofs.units.first_locals.Given as goal

abbrev pub invariant-loop-slot : goal.invariant-loop-slot
invariant-loop-slot l = locals l.scope ++ locals_from l.slot (vars (drop l.slot l.vars)) ≡ locals_from 0 (vars l.vars)
