use Rattle.std.proofs.Common.{◌≡◌, drop}
use Rattle.lam_syntax.specs.Tree.{vars_tree}
use Rattle.lam_types_kinds.specs.Tables.{vars_known}
use Rattle.lam_types_kinds.specs.Values.{decls, names}
use Rattle.lam_types_kinds.proofs.tables.known_vars.Given as goal

abbrev pub invariant-loop-v : goal.invariant-loop-v
invariant-loop-v l = vars_known (decls l.known) l.limit (names l.initial.all.entries) (vars_tree l.vars) ≡ vars_known (decls l.known) l.limit (names l.all.entries) (vars_tree (drop l.v-index l.vars))
