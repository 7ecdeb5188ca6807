use Rattle.std.proofs.Common.{◌≡◌, ◌++◌, drop, map}
use Rattle.lam_resolve_tree.specs.Tree.{classes_tree}
use Rattle.lam_meaning.specs.Means.{kind_of}
use Rattle.barrier_compiler.proofs.generation.classes_of.Given as goal

abbrev pub invariant-loop-class : goal.invariant-loop-class
invariant-loop-class l = l.all.items ++ map (λ ts. map kind_of ts) (classes_tree (drop l.class-index l.classes.items)) ≡ map (λ ts. map kind_of ts) (classes_tree l.classes.items)
