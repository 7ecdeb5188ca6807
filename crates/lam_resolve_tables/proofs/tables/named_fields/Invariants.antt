use Rattle.std.proofs.Common.{◌≡◌, drop, ◌++◌}
use Rattle.lam_resolve_tables.specs.Tables.{vars, fields}
use Rattle.lam_resolve_tables.proofs.tables.named_fields.Given as goal

abbrev pub invariant-loop-var : goal.invariant-loop-var
invariant-loop-var l = fields l.fields ++ vars (drop l.var-index l.vars) ≡ vars l.vars
