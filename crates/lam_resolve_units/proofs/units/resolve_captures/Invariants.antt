use Rattle.std.proofs.Common.{drop}
use Rattle.lam_syntax.specs.Tree.{ids_tree}
use Rattle.lam_resolve_laws.specs.Resolved.{resolve_captures}
use Rattle.lam_resolve_exprs.specs.Values.{locals}
use Rattle.lam_resolve_tables.proofs.Options.{Collected}
use Rattle.lam_resolve_units.specs.Seen.{captured}
use Rattle.lam_resolve_units.proofs.units.resolve_captures.Given as goal

abbrev pub invariant-loop-x : goal.invariant-loop-x
invariant-loop-x l = Collected (resolve_captures (locals l.scope) (ids_tree l.xs)) (resolve_captures (locals l.scope) (ids_tree (drop l.x-index l.xs))) (captured l.captures.items)
