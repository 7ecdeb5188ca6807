use Rattle.std.proofs.Common.{◌≤◌, take, reverse, length}
use Rattle.lam_meaning.specs.Scheme.{gives_back}
use Rattle.barrier_compiler_ops.specs.Emits.{Goes}
use Rattle.barrier_compiler_ops.proofs.blocks.emit_returns.Given as goal

abbrev pub invariant-loop-left : goal.invariant-loop-left
invariant-loop-left l =
    record {
      within : l.left ≤ length l.held.items;
      goes : Goes l.initial.out l.out (gives_back (reverse l.held.items)) (gives_back (reverse (take l.left l.held.items)));
    }

abbrev pub decreases-loop-left : goal.decreases-loop-left
decreases-loop-left l = l.left
