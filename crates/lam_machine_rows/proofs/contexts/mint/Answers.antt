use Rattle.std.proofs.Common.{refl}
use Rattle.lam_machine_rows.proofs.RowLemmas.{gives_as, refused_as, passes_as, fails_as, holds_as}
use Rattle.lam_machine_rows.proofs.contexts.mint.Goals as goal

pub returns-in-Some : goal.returns-in-Some
returns-in-Some c = λ w k. refused_as _ _ _ _ c.refused.ensures c.in-Some.ensures.value

pub returns-in-Some-full : goal.returns-in-Some-full
returns-in-Some-full c = λ w k. passes_as _ _ _ c.in_default.ensures.value (fails_as _ _ _ _ c.failed.ensures c.in-Some-full.ensures)

pub returns : goal.returns
returns c = λ w k. passes_as _ _ _ c.in_default.ensures.value (holds_as _ _ _ c.in_default-full.ensures (gives_as _ _ _ _ _ c.gives.ensures refl refl))
