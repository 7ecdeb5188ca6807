use Rattle.std.proofs.Common.{◌∷◌, ◌∙◌, sym, ap}
use Rattle.thread_steps.specs.Next.{done}
use Rattle.thread_core_answers.proofs.plans.plan_done.Goals as goal

pub returns-in_ok-plan_taken-in-MonEnter-clause-after : goal.returns-in_ok-plan_taken-in-MonEnter-clause-after
returns-in_ok-plan_taken-in-MonEnter-clause-after c =
    λ rest i n.
    ap (λ d. d ∷ rest) (c.in_ok-plan_taken-in-MonEnter.ensures.after c.args.ask.now i n)
    ∙ ap (λ a. done c.args.code.now c.args.c.now rest i a) (sym c.in-MonEnter.is)

pub returns-in_ok-plan_given-in-MonLeave-clause-after : goal.returns-in_ok-plan_given-in-MonLeave-clause-after
returns-in_ok-plan_given-in-MonLeave-clause-after c =
    λ rest i n.
    ap (λ d. d ∷ rest) (c.in_ok-plan_given-in-MonLeave.ensures.after c.args.ask.now i n)
    ∙ ap (λ a. done c.args.code.now c.args.c.now rest i a) (sym c.in-MonLeave.is)
