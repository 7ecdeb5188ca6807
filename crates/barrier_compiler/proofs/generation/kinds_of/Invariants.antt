use Rattle.std.proofs.Common.{◌≡◌, ◌++◌, drop, map}
use Rattle.lam_resolve_tree.specs.Tree.{types_tree}
use Rattle.lam_meaning.specs.Means.{kind_of}
use Rattle.barrier_compiler.proofs.generation.kinds_of.Given as goal

abbrev pub invariant-loop-ty : goal.invariant-loop-ty
invariant-loop-ty l = l.kinds.items ++ map kind_of (types_tree (drop l.ty-index l.types.items)) ≡ map kind_of (types_tree l.types.items)
