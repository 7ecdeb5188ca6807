use Rattle.std.proofs.Common.{◌∙◌, ap, refl, sym}
use Rattle.lam_machine_rows.specs.Rows.{ended_with}
use Rattle.lam_machine_rows.proofs.RowLemmas.{answers_as, joined_as, refused_as, passes_as}
use Rattle.lam_machine_rows.proofs.contexts.join.Goals as goal

pub returns-in-Some : goal.returns-in-Some
returns-in-Some c = λ w k t h. refused_as _ _ _ _ c.refused.ensures (rw c.public-public.ensures at c.in-Some.ensures.value)

pub returns : goal.returns
returns c = λ w k t h. passes_as _ _ _ (rw c.public-public.ensures at c.in_default.ensures.value) (joined_as _ _ (answers_as _ _ _ refl (c.in_ok-answer.ensures ∙ ap (λ o. ended_with o) (sym h))))
