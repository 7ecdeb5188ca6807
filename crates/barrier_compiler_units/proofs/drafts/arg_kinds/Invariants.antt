use Rattle.std.proofs.Common.{◌≡◌, ◌++◌, drop, map}
use Rattle.lam_resolve_tree.specs.Tree.{types_tree}
use Rattle.lam_meaning.specs.Scheme.{arg_kind}
use Rattle.barrier_compiler_units.proofs.drafts.arg_kinds.Given as goal

abbrev pub invariant-loop-ty : goal.invariant-loop-ty
invariant-loop-ty l = l.kinds.items ++ map arg_kind (types_tree (drop l.ty-index l.types.items)) ≡ map arg_kind (types_tree l.types.items)
