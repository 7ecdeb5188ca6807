use Rattle.std.proofs.Common.{◌≡◌, drop, reverse}
use Rattle.lam_resolve_tree.specs.Tree.{stmts_tree}
use Rattle.lam_meaning.specs.Scheme.{block}
use Rattle.barrier_compiler_ops.specs.Emits.{Goes}
use Rattle.barrier_compiler_ops.proofs.blocks.+stmt.Given as goal

abbrev pub invariant-emit_block-loop-s : goal.invariant-emit_block-loop-s
invariant-emit_block-loop-s l =
    record {
      goes : Goes l.initial.out l.out (block (reverse l.initial.held.items) (stmts_tree l.body.items)) (block (reverse l.initial.held.items) (stmts_tree (drop l.s-index l.body.items)));
      stays : l.held.items ≡ l.initial.held.items;
    }
