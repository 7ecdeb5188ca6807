use Rattle.std.proofs.Common.{◌-◌, ◌∙◌, ap, arith}
use Rattle.thread_steps.specs.Next.{next_of, done}
use Rattle.thread_core_answers.specs.Preparing.{done_in, undone_in}
use Rattle.thread_core_answers.proofs.Tops.{top_before, top_after}
use Rattle.thread_core_answers.proofs.plans.plan_last_done.Goals as goal

pub returns-clause-before : goal.returns-clause-before
returns-clause-before c =
    top_before c.args.contexts.now.items (c.len-last.result - 1) c.index_mut.result.now c.plan_done.new.c (undone_in c.in_ok-plan.plan) (omega arith) c.index_mut.ensures.value c.in_ok-plan.ensures.before

pub returns-clause-after : goal.returns-clause-after
returns-clause-after c =
    λ d rest i r n.
    top_after c.args.contexts.now.items (c.len-last.result - 1) c.index_mut.result.now c.plan_done.new.c d rest _ (done_in c.in_ok-plan.plan) (omega arith) c.index_mut.ensures.value r
    (λ e. c.in_ok-plan.ensures.after rest i (ap (next_of c.args.code.now) e ∙ n) ∙ ap (λ m. done c.args.code.now m rest i c.args.ask.now) e)
