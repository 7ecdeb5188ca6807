use Rattle.std.proofs.Common.{◌-◌, ◌∷◌, ◌∙◌, ap, arith}
use Rattle.std.proofs.lemmas.Result.{IfOk-weaker}
use Rattle.thread_steps.specs.Next.{with_inside, region_context}
use Rattle.thread_core_answers.proofs.Tops.{top_same}
use Rattle.thread_core_answers.proofs.plans.plan_enter.Goals as goal

pub returns-clause-after : goal.returns-clause-after
returns-clause-after c =
    IfOk-weaker c.plan_region.result _ _
    (λ p h a d rest i r n.
    h a d rest i r n
    ∙ ap (λ m. m ∷ (with_inside d i ∷ rest))
    (c.in_ok-inner.ensures
    ∙ ap (λ m. region_context c.args.code.now m c.args.label.now c.args.caps.now c.args.region c.args.args.now)
    (top_same c.args.contexts.now.items (c.len-last.result - 1) c.index.result.now d rest (omega arith) c.index.ensures r)))
    c.plan_region.ensures.after
