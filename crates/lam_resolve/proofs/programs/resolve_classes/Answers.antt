use Rattle.lam_resolve.proofs.ProgramSteps.{classes_step}
use Rattle.lam_resolve.proofs.programs.resolve_classes.Goals as goal

pub loop-class-preserved : goal.loop-class-preserved
loop-class-preserved c =
    classes_step c.loop-class.out.items c.push.new.self.items c.args.classes.now c.loop-class.class-index c.class-item.result _ _ c.loop-class-test.true c.class-item.is c.in_ok-fields.ensures c.in_ok-push.ensures.items c.loop-class.invariant
