use Rattle.std.proofs.Common.{◌-◌, ◌∷◌, ap, arith}
use Rattle.thread_core_answers.specs.Preparing.{done_in}
use Rattle.thread_core_answers.specs.declared.plan.Plan.TheVariants as plan
use Rattle.thread_core_answers.proofs.Tops.{done_top}
use Rattle.thread_core_answers.proofs.commit.go_last.Goals as goal

pub returns : goal.returns
returns c =
    done_top c.args.contexts.now.items (c.len-at.result - 1) c.index_mut.result.now c.go.new.c (done_in (plan.Goes c.args.going)) (omega arith) c.index_mut.ensures.value
    (λ rest. ap (λ d. d ∷ rest) c.go.ensures)
