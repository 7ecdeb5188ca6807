use Rattle.std.proofs.Common.{◌∙◌, ap}
use Rattle.lam_value.specs.declared.values.Value.TheVariants as value
use Rattle.lam_asks.specs.declared.answer.Answer.TheVariants as answer
use Rattle.lam_machine_rows.proofs.RowLemmas.{answers_as, refused_as, clear_as}
use Rattle.lam_machine_rows.proofs.files.read_file.Goals as goal

pub returns-in-Some : goal.returns-in-Some
returns-in-Some c = λ w k. refused_as _ _ _ _ c.refused.ensures (rw c.own.ensures at c.in-Some.ensures.value)

pub returns : goal.returns
returns c = λ w k. clear_as _ _ _ (rw c.own.ensures at c.in_default.ensures.value) (answers_as _ _ _ c.gives.ensures (ap (λ b. answer.Val (value.Bytes b)) (c.in_ok-bytes.ensures ∙ c.read.ensures)))
