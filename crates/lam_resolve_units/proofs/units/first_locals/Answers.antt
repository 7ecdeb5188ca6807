use Rattle.lam_resolve_tables.specs.Entries.{entries_of}
use Rattle.lam_resolve_units.proofs.UnitSteps.{locals_step}
use Rattle.lam_resolve_units.proofs.units.first_locals.Goals as goal

pub loop-slot-preserved : goal.loop-slot-preserved
loop-slot-preserved c = locals_step (entries_of c.loop-slot.scope) (entries_of c.push.new.self) c.args.vars.now c.loop-slot.slot _ _ c.loop-slot-test.true c.in_ok-push.ensures c.loop-slot.invariant
