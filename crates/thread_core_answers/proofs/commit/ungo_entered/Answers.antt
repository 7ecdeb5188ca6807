use Rattle.std.proofs.Common.{◌-◌, ◌∷◌, ap, arith}
use Rattle.thread_core_answers.specs.Preparing.{undone_in}
use Rattle.thread_core_answers.specs.declared.plan.Plan.TheVariants as plan
use Rattle.thread_core_answers.proofs.Tops.{below_top}
use Rattle.thread_core_answers.proofs.commit.ungo_entered.Goals as goal

pub returns : goal.returns
returns c =
    below_top c.args.contexts.now.items c.drop_last.new.contexts.items (c.len-at.result - 1) c.index_mut.result.now c.ungo.new.c (undone_in (plan.Enters c.args.going)) (omega arith) c.drop_last.ensures (omega arith) c.index_mut.ensures.value
    (λ r rest. ap (λ d. d ∷ rest) c.ungo.ensures)
