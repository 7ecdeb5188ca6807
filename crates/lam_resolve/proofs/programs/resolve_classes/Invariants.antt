use Rattle.std.proofs.Common.{◌≡◌, ◌++◌, drop}
use Rattle.lam_resolve_tree.specs.Tree.{classes_tree}
use Rattle.lam_resolve_tables.specs.Tables.{all_fields}
use Rattle.lam_resolve.specs.Meets.{types_of_all}
use Rattle.lam_resolve.proofs.programs.resolve_classes.Given as goal

abbrev pub invariant-loop-class : goal.invariant-loop-class
invariant-loop-class l = classes_tree l.out.items ++ types_of_all (all_fields (drop l.class-index l.classes)) ≡ types_of_all (all_fields l.classes)
