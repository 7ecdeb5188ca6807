use Rattle.std.proofs.Common.{drop}
use Rattle.lam_meaning.specs.Scheme.{loads}
use Rattle.barrier_compiler_ops.specs.Emits.{Goes}
use Rattle.barrier_compiler_ops.proofs.blocks.emit_loads.Given as goal

abbrev pub invariant-loop-slot : goal.invariant-loop-slot
invariant-loop-slot l = Goes l.initial.out l.out (loads l.slots.items) (loads (drop l.slot-index l.slots.items))
