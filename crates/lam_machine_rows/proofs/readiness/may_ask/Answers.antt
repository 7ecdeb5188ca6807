use Rattle.std.proofs.Common.{◌∙◌, ap, sym}
use Rattle.lam_machine_effects.specs.Turns as turns
use Rattle.lam_machine_rows.specs.Acting.{Acting}
use Rattle.lam_machine_rows.proofs.WaitLemmas.{lists_reverse}
use Rattle.lam_machine_rows.proofs.readiness.may_ask.Goals as goal

pub returns-in-MonLeave : goal.returns-in-MonLeave
returns-in-MonLeave c = λ k h.
    c.lists.ensures ∙ lists_reverse _ _
    ∙ ap (λ ns. turns.lists ns c.in-MonLeave.r) (c.held.ensures ∙ ap (λ (a : Acting). a.held) (sym h))
    ∙ ap (λ a. turns.may_ask k a) (sym c.in-MonLeave.is)
