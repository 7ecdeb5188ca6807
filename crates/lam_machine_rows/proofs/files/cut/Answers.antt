use Rattle.lam_machine_rows.proofs.RowLemmas.{refused_as, clear_ok, whole}
use Rattle.lam_machine_rows.proofs.files.cut.Goals as goal

pub returns-in-Some : goal.returns-in-Some
returns-in-Some c = λ w k. refused_as _ _ _ _ c.refused.ensures (rw c.own.ensures at c.in-Some.ensures.value)

pub returns : goal.returns
returns c = whole _ _ (λ w k. clear_ok _ _ _ (rw c.own.ensures at c.in_default.ensures.value) (c.did.ensures _ c.cuts.ensures))
