use Rattle.std.proofs.Common.{◌≡◌}
use Rattle.lam_resolve_tree.specs.Tree.{type_tree}
use Rattle.lam_resolve_tables.specs.Kinds.{base_type, arrays_of}
use Rattle.lam_resolve_tables.proofs.kinds.value_type.Given as goal

abbrev pub invariant-loop : goal.invariant-loop
invariant-loop l = type_tree l.ty ≡ arrays_of l.counter (base_type l.fn.kind.base)
