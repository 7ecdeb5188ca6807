use Rattle.std.proofs.Common.{arith}
use Rattle.barrier_compiler_ops.proofs.Joins.{starts}
use Rattle.barrier_compiler_ops.proofs.Arms.{at_load, load_added, loads_done}
use Rattle.barrier_compiler_ops.proofs.blocks.emit_loads.Goals as goal

pub loop-slot-init : goal.loop-slot-init
loop-slot-init c = starts _ _

pub loop-slot-preserved : goal.loop-slot-preserved
loop-slot-preserved c =
    load_added _ c.args.slots.now.items c.loop-slot.slot-index 0 (grind (arith, c.deref-slot-items.ensures.value)) c.loop-slot.invariant (at_load c.deref-slot-items.result.now c.args.slots.now.items c.loop-slot.slot-index c.deref-slot-items.ensures.value c.load.ensures)

pub returns : goal.returns
returns c = loads_done _ c.args.slots.now.items c.loop-slot.slot-index (grind (arith, c.deref-slot-items.ensures.value)) c.loop-slot.invariant
