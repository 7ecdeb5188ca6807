use Rattle.std.proofs.Common.{◌≡◌, drop, []}
use Rattle.lam_syntax.specs.Tree.{vars_tree}
use Rattle.lam_types_kinds.specs.Tables.{with_fields}
use Rattle.lam_types_kinds.specs.Values.{names}
use Rattle.lam_types_kinds.proofs.tables.fields_of.Given as goal

abbrev pub invariant-loop-v : goal.invariant-loop-v
invariant-loop-v l = with_fields [] (vars_tree l.vars) ≡ with_fields (names l.all.entries) (vars_tree (drop l.v-index l.vars))
