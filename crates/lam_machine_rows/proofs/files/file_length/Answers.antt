use Rattle.std.proofs.Common.{ap}
use Rattle.lam_asks.specs.declared.answer.Answer.TheVariants as answer
use Rattle.lam_machine_rows.proofs.RowLemmas.{answers_as, refused_as, clear_as}
use Rattle.lam_machine_rows.proofs.files.file_length.Goals as goal

pub returns-in-Some : goal.returns-in-Some
returns-in-Some c = λ w k. refused_as _ _ _ _ c.refused.ensures (rw c.own.ensures at c.in-Some.ensures.value)

pub returns-in-None : goal.returns-in-None
returns-in-None c = λ w k. clear_as _ _ _ (rw c.own.ensures at c.in-None.ensures.value) (answers_as _ _ _ c.gives.ensures (ap (λ v. answer.Val v) c.length_of.ensures))
