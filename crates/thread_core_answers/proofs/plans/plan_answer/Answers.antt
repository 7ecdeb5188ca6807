use Rattle.std.proofs.Common.{◌∙◌, sym, ap}
use Rattle.std.proofs.lemmas.Result.{IfOk-weaker}
use Rattle.thread_steps.specs.Next.{answered}
use Rattle.thread_core_answers.proofs.plans.plan_answer.Goals as goal

pub returns-in-Val-clause-after : goal.returns-in-Val-clause-after
returns-in-Val-clause-after c =
    IfOk-weaker c.plan_last_value.result _ _
    (λ p h d rest i r n. h d rest i r n ∙ ap (λ x. answered c.args.code.now d rest i c.args.ask.now x) (sym c.in-Val.is)) c.plan_last_value.ensures.after
