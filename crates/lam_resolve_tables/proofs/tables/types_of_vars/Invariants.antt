use Rattle.std.proofs.Common.{◌≡◌, ◌++◌, drop}
use Rattle.lam_resolve_tree.specs.Tree.{types_tree}
use Rattle.lam_resolve_laws.specs.Resolved.{types_of}
use Rattle.lam_resolve_tables.specs.Tables.{vars}
use Rattle.lam_resolve_tables.proofs.tables.types_of_vars.Given as goal

abbrev pub invariant-loop-var : goal.invariant-loop-var
invariant-loop-var l = types_tree l.types.items ++ types_of (vars (drop l.var-index l.vars)) ≡ types_of (vars l.vars)
