use Rattle.std.proofs.Common.{sym, ap, ◌∙◌, Some, None}
use Rattle.play_script.proofs.WordLemmas.{copy_found}
use Rattle.play_script.proofs.steps.copy_of.Goals as goal
use Rattle.play_script.specs.Script.{then_some}
use Rattle.play_script.specs.declared.Step.TheVariants.{Copy}

pub returns-in_err-from-in-len2 : goal.returns-in_err-from-in-len2
returns-in_err-from-in-len2 c = c.from_residual.ensures ∙ copy_found c.args.cells.now c.args.actor c.args.words.now _ None c.in-len2.len_at_least c.in-len2.len_below (sym c.in_err-from-in-len2.was ∙ c.place_of.ensures)

pub returns-in_err-to-in-len2 : goal.returns-in_err-to-in-len2
returns-in_err-to-in-len2 c = c.from_residual-in_err-to-in-len2.ensures ∙ ap (λ o. then_some o (λ y. Some (Copy c.args.actor c.in_ok-from-in-len2.from y))) (sym c.in_err-to-in-len2.was ∙ c.place_of-in-len2.ensures) ∙ copy_found c.args.cells.now c.args.actor c.args.words.now _ (Some c.in_ok-from-in-len2.from) c.in-len2.len_at_least c.in-len2.len_below (sym c.in_ok-from-in-len2.was ∙ c.place_of.ensures)

pub returns-in_ok-to-in-len2 : goal.returns-in_ok-to-in-len2
returns-in_ok-to-in-len2 c = ap (λ o. then_some o (λ y. Some (Copy c.args.actor c.in_ok-from-in-len2.from y))) (sym c.in_ok-to-in-len2.was ∙ c.place_of-in-len2.ensures) ∙ copy_found c.args.cells.now c.args.actor c.args.words.now _ (Some c.in_ok-from-in-len2.from) c.in-len2.len_at_least c.in-len2.len_below (sym c.in_ok-from-in-len2.was ∙ c.place_of.ensures)
