use Rattle.lam_value.specs.declared.names.Name.{Name}
use Rattle.lam_asks.specs.declared.fault.Fault.TheVariants.{NoEntry}
use Rattle.std.proofs.Common.{Option, ◌∙◌, ap}
use Rattle.lam_value.specs.declared.values.Value.TheVariants as value
use Rattle.lam_asks.specs.declared.answer.Answer.TheVariants as answer
use Rattle.lam_machine_effects.specs.Serving.{where_none, found}
use Rattle.lam_machine_rows.proofs.RowLemmas.{answers_as, refused_as, passes_as, fails_as, holds_as}
use Rattle.lam_machine_rows.proofs.files.open_dir.Goals as goal

pub returns-in-Some : goal.returns-in-Some
returns-in-Some c = λ w k. refused_as _ _ _ _ c.refused.ensures (rw c.own.ensures at c.in-Some.ensures.value)

pub returns-in_default-look_up : goal.returns-in_default-look_up
returns-in_default-look_up c = λ w k. passes_as _ _ _ (rw c.own.ensures at c.in_default.ensures.value) (fails_as _ _ _ _ c.failed.ensures (ap (λ (o : Option Name). where_none o NoEntry) (rw c.bytes.ensures at c.in_default-look_up.ensures)))

pub returns : goal.returns
returns c = λ w k. passes_as _ _ _ (rw c.own.ensures at c.in_default.ensures.value) (holds_as _ _ _ (ap (λ (o : Option Name). where_none o NoEntry) (rw c.bytes.ensures at c.in-Some-look_up.ensures))
    (answers_as _ _ _ c.gives.ensures (ap (λ n. answer.Val (value.Dir n)) c.in_ok-name.ensures ∙ ap (λ o. answer.Val (found (λ n. value.Dir n) o)) (rw c.bytes.ensures at c.in-Some-look_up.ensures))))
