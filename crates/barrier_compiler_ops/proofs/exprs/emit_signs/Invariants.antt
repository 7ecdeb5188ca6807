use Rattle.std.proofs.Common.{drop}
use Rattle.lam_resolve_tree.specs.Tree.{caps_tree}
use Rattle.lam_meaning.specs.Scheme.{signs}
use Rattle.barrier_compiler_ops.specs.Emits.{Goes}
use Rattle.barrier_compiler_ops.proofs.exprs.emit_signs.Given as goal

abbrev pub invariant-loop-item : goal.invariant-loop-item
invariant-loop-item l = Goes l.initial.out l.out (signs (caps_tree l.items)) (signs (caps_tree (drop l.item-index l.items)))
