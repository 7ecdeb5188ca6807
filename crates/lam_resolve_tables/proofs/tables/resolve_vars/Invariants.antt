use Rattle.std.proofs.Common.{drop}
use Rattle.lam_syntax.specs.Tree.{vars_tree}
use Rattle.lam_resolve_laws.specs.Resolved.{resolve_vars}
use Rattle.lam_resolve_tables.specs.Entries.{entries_of}
use Rattle.lam_resolve_tables.specs.Tables.{vars}
use Rattle.lam_resolve_tables.proofs.Options.{Collected}
use Rattle.lam_resolve_tables.proofs.tables.resolve_vars.Given as goal

abbrev pub invariant-loop-var : goal.invariant-loop-var
invariant-loop-var l = Collected (resolve_vars (entries_of l.names) (vars_tree l.written)) (resolve_vars (entries_of l.names) (vars_tree (drop l.var-index l.written))) (vars l.vars.items)
