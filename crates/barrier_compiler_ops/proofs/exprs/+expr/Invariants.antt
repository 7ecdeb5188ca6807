use Rattle.std.proofs.Common.{drop}
use Rattle.lam_resolve_tree.specs.Tree.{exprs_tree}
use Rattle.lam_meaning.specs.Scheme.{expressions}
use Rattle.barrier_compiler_ops.specs.Emits.{Goes}
use Rattle.barrier_compiler_ops.proofs.exprs.+expr.Given as goal

abbrev pub invariant-emit_exprs-loop-e : goal.invariant-emit_exprs-loop-e
invariant-emit_exprs-loop-e l = Goes l.initial.out l.out (expressions (exprs_tree l.es.items)) (expressions (exprs_tree (drop l.e-index l.es.items)))
