use Rattle.lam_machine_rows.proofs.RowLemmas.{refused_as, passes_as, fails_as, passes_ok, holds_ok, whole}
use Rattle.lam_machine_rows.proofs.files.remove.Goals as goal

pub returns-in-Some : goal.returns-in-Some
returns-in-Some c = λ w k. refused_as _ _ _ _ c.refused.ensures (rw c.own.ensures at c.in-Some.ensures)

pub returns-in-Some-absent : goal.returns-in-Some-absent
returns-in-Some-absent c = λ w k. passes_as _ _ _ (rw c.own.ensures at c.in_default.ensures) (fails_as _ _ _ _ c.failed.ensures c.in-Some-absent.ensures)

pub returns : goal.returns
returns c = whole _ _ (λ w k. passes_ok _ _ _ (rw c.own.ensures at c.in_default.ensures) (holds_ok _ _ _ c.in_default-absent.ensures (c.did.ensures _ c.removes.ensures)))
