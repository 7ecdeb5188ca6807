use Rattle.std.proofs.Common.{◌≡◌, drop, ◌++◌}
use Rattle.lam_syntax.specs.Tree.{vars_tree}
use Rattle.lam_types_kinds.specs.Tables.{places_of}
use Rattle.lam_types_kinds.specs.Values.{places}
use Rattle.lam_types_kinds.proofs.tables.wants_of.Given as goal

abbrev pub invariant-loop-v : goal.invariant-loop-v
invariant-loop-v l = places l.wants.items ++ places_of (vars_tree (drop l.v-index l.vars)) ≡ places_of (vars_tree l.vars)
