use Rattle.lam_syntax.specs.Tree.{type_tree}
use Rattle.lam_resolve_tables.proofs.Sizes.{type_size}
use Rattle.lam_resolve_tables.proofs.kinds.+resolve_type.Given as goal

abbrev pub decreases-resolve_type : goal.decreases-resolve_type
decreases-resolve_type l = type_size (type_tree l.t.now)
