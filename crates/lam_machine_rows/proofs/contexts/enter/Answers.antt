use Rattle.std.proofs.Common.{refl}
use Rattle.lam_machine_rows.proofs.RowLemmas.{refused_as, passes_as, fails_as, holds_as}
use Rattle.lam_machine_rows.proofs.contexts.enter.Goals as goal

pub returns-in-Some : goal.returns-in-Some
returns-in-Some c = λ region args w k. refused_as _ _ _ _ c.refused.ensures c.in-Some.ensures

pub returns-in-Some-full : goal.returns-in-Some-full
returns-in-Some-full c = λ region args w k. passes_as _ _ _ c.in_default.ensures (fails_as _ _ _ _ c.failed.ensures (rw c.from.ensures at c.in-Some-full.ensures))

pub returns : goal.returns
returns c = λ region args w k. passes_as _ _ _ c.in_default.ensures (holds_as _ _ _ (rw c.from.ensures at c.in_default-full.ensures) (record { answer = refl; effect = refl }))
