use Rattle.std.proofs.Common.{◌∙◌, ap}
use Rattle.thread_steps.specs.Ops.{on_known, on_many}
use Rattle.thread_core_effects.specs.Acting.{enters_with}
use Rattle.thread_core_ops.proofs.units.enter_region.Goals as goal

pub returns-in-None : goal.returns-in-None
returns-in-None c =
    λ locals. ap (λ o. on_known o (λ n. on_many n c.args.stack.now (λ args s. enters_with c.args.region args s))) c.in-None.ensures

pub returns-in-Some : goal.returns-in-Some
returns-in-Some c =
    λ locals. c.enter_many.ensures locals ∙ ap (λ o. on_known o (λ n. on_many n c.args.stack.now (λ args s. enters_with c.args.region args s))) c.in-Some.ensures
