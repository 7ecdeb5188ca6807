use Rattle.std.proofs.Common.{◌∙◌, drop, sym, ap}
use Rattle.thread_core_effects.specs.Acting.{enters_with}
use Rattle.thread_core_ops.proofs.Many.{many_fits, many_short}
use Rattle.thread_core_ops.proofs.units.enter_many.Goals as goal

pub returns-in-None : goal.returns-in-None
returns-in-None c = λ locals. sym (many_short c.args.count c.args.stack.now (λ args s. enters_with c.args.region args s) c.in-None.ensures)

pub returns-in-Some : goal.returns-in-Some
returns-in-Some c =
    λ locals. c.enter_with.ensures locals
    ∙ (ap (λ vs. enters_with c.args.region vs (drop c.args.count c.args.stack.now)) c.in-Some.ensures.1
    ∙ sym (many_fits c.args.count c.args.stack.now (λ args s. enters_with c.args.region args s) c.in-Some.ensures.0))
