use Rattle.std.proofs.Common.{ap}
use Rattle.lam_value.specs.declared.values.Value.TheVariants as value
use Rattle.lam_machine_rows.proofs.RowLemmas.{refused_as, passes_as, fails_as, makes_ok, passes_ok, holds_ok, whole}
use Rattle.lam_machine_rows.proofs.files.make_dir.Goals as goal

pub returns-in-Some : goal.returns-in-Some
returns-in-Some c = λ w k. refused_as _ _ _ _ c.refused.ensures (rw c.own.ensures at c.in-Some.ensures)

pub returns-in-Some-first_fault : goal.returns-in-Some-first_fault
returns-in-Some-first_fault c = λ w k. passes_as _ _ _ (rw c.own.ensures at c.in_default.ensures) (fails_as _ _ _ _ c.failed.ensures c.in-Some-first_fault.ensures)

pub returns : goal.returns
returns c = whole _ _ (λ w k. passes_ok _ _ _ (rw c.own.ensures at c.in_default.ensures) (holds_ok _ _ _ c.in_default-first_fault.ensures (makes_ok _ _ _ _ _ (ap (λ n. value.Dir n) c.in_ok-name.ensures) (c.given.ensures _ c.adds_dir.ensures))))
