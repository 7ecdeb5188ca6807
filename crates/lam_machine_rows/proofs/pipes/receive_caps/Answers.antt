use Rattle.std.proofs.Common.{◌∙◌, ap}
use Rattle.lam_machine_effects.specs.Serving.{received}
use Rattle.lam_machine_rows.proofs.RowLemmas.{refused_as, gives_ok, clear_ok, whole}
use Rattle.lam_machine_rows.proofs.pipes.receive_caps.Goals as goal

pub returns-in-Some : goal.returns-in-Some
returns-in-Some c = λ w k. refused_as _ _ _ _ c.refused.ensures (rw c.own.ensures at c.in-Some.ensures.value)

pub returns : goal.returns
returns c = whole _ _ (λ w k. clear_ok _ _ _ (rw c.own.ensures at c.in_default.ensures.value) (gives_ok _ _ _ _ (c.in_ok-v.ensures ∙ ap (λ m. received m) c.front.ensures) (c.given.ensures _ c.receives.ensures)))
