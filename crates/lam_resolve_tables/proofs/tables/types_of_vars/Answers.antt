use Rattle.lam_resolve_tables.proofs.TableSteps.{types_step}
use Rattle.lam_resolve_tables.proofs.tables.types_of_vars.Goals as goal

pub loop-var-preserved : goal.loop-var-preserved
loop-var-preserved c =
    types_step c.loop-var.types.items c.push.new.self.items c.args.vars.now c.loop-var.var-index _ c.in_ok-value_type.field-0 _ c.loop-var-test.true c.in_ok-value_type.ensures c.in_ok-push.ensures.items c.loop-var.invariant
