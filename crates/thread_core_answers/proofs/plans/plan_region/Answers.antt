use Rattle.std.proofs.Common.{◌-◌, ◌∷◌, ◌∙◌, ap, arith}
use Rattle.thread_steps.specs.Next.{next_of, with_inside}
use Rattle.thread_core_answers.specs.Preparing.{done_in, undone_in}
use Rattle.thread_core_answers.specs.declared.plan.Plan.TheVariants as plan
use Rattle.thread_core_answers.proofs.Tops.{above_before, above_after}
use Rattle.thread_core_answers.proofs.plans.plan_region.Goals as goal

pub returns-in-Ok-clause-before : goal.returns-in-Ok-clause-before
returns-in-Ok-clause-before c =
    above_before c.args.contexts.now.items c.put_context.new.contexts.items (c.len-last.result - 1) c.args.inner c.index_mut.result.now c.plan_rest.new.c (undone_in (plan.Enters c.in-Ok.going)) c.in_ok-put_context.ensures.ok (omega arith) c.index_mut.ensures.value
    (λ rest. ap (λ d. d ∷ rest) c.in-Ok.ensures.before)

pub returns-in-Ok-clause-after : goal.returns-in-Ok-clause-after
returns-in-Ok-clause-after c =
    λ a d rest i r n.
    above_after c.args.contexts.now.items c.put_context.new.contexts.items (c.len-last.result - 1) c.args.inner c.index_mut.result.now c.plan_rest.new.c d rest _ (done_in (plan.Enters c.in-Ok.going)) c.in_ok-put_context.ensures.ok (omega arith) c.index_mut.ensures.value r
    (λ e. ap (λ m. c.args.inner ∷ (m ∷ rest)) (c.in-Ok.ensures.after a i (ap (next_of c.args.code.now) e ∙ n) ∙ ap (λ m. with_inside m i) e))
