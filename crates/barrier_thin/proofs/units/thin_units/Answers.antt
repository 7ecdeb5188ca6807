use Rattle.std.proofs.Common.{arith}
use Rattle.barrier_thin.specs.Units.{thin_each}
use Rattle.barrier_thin.proofs.Building.{got, unit_next}
use Rattle.barrier_thin.proofs.units.thin_units.Goals as goal

pub loop-n-preserved : goal.loop-n-preserved
loop-n-preserved c =
    unit_next c.args.staying.now c.args.units.now (thin_each c.args.staying.now c.args.units.now) c.loop-n.out.items c.push.new.self.items c.loop-n.n c.index-staying-n.result c.index-units-n.result c.in_ok-thin_unit.field-0
    (got c.args.staying.now c.loop-n.n c.index-staying-n.result (omega (arith, c.loop-n-test.true, c.requires)) c.index-staying-n.is)
    (got c.args.units.now c.loop-n.n c.index-units-n.result c.loop-n-test.true c.index-units-n.is)
    c.in_ok-thin_unit.ensures c.in_ok-push.ensures.items c.loop-n.invariant
