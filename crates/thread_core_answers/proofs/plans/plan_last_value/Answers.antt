use Rattle.std.proofs.Common.{◌-◌, ◌∷◌, ◌∙◌, ap, arith}
use Rattle.thread_steps.specs.Next.{next_of, gains, given}
use Rattle.thread_core_answers.specs.Preparing.{done_in, undone_in}
use Rattle.thread_core_answers.specs.declared.plan.Plan.TheVariants as plan
use Rattle.thread_core_answers.proofs.Tops.{top_before, top_after}
use Rattle.thread_core_answers.proofs.plans.plan_last_value.Goals as goal

pub returns-clause-before : goal.returns-clause-before
returns-clause-before c =
    top_before c.args.contexts.now.items (c.len-last.result - 1) c.index_mut.result.now c.plan_value.new.c (undone_in (plan.Goes c.in_ok-going.going)) (omega arith) c.index_mut.ensures.value
    (λ rest. ap (λ d. d ∷ rest) c.in_ok-going.ensures.before)

pub returns-clause-after : goal.returns-clause-after
returns-clause-after c =
    λ d rest i r n.
    top_after c.args.contexts.now.items (c.len-last.result - 1) c.index_mut.result.now c.plan_value.new.c d rest _ (done_in (plan.Goes c.in_ok-going.going)) (omega arith) c.index_mut.ensures.value r
    (λ e. ap (λ m. m ∷ rest) (c.in_ok-going.ensures.after i (ap (next_of c.args.code.now) e ∙ n) ∙ ap (λ m. gains c.args.ask.now c.args.value (given m i c.args.value)) e))
