use Rattle.std.proofs.Common.{◌≡◌, map, take}
use Rattle.lam_value.specs.Shapes.{zero_of}
use Rattle.lam_resolve_tree.specs.Tree.{type_tree}
use Rattle.lam_meaning.specs.Means.{kind_of}
use Rattle.source_walk_follow.proofs.compares.zeros.Given as goal

abbrev pub invariant-loop-ty : goal.invariant-loop-ty
invariant-loop-ty l = l.all ≡ map (λ t. zero_of (kind_of (type_tree t))) (take l.ty-index l.types)
