use Rattle.std.proofs.Common.{sym, ◌∙◌, Some, None}
use Rattle.play_script.proofs.WordLemmas.{read_found}
use Rattle.play_script.proofs.steps.read_of.Goals as goal

pub returns-in_err-cell-in-len1 : goal.returns-in_err-cell-in-len1
returns-in_err-cell-in-len1 c = c.from_residual.ensures ∙ read_found c.args.cells.now c.args.actor c.args.words.now _ None c.in-len1.len_at_least c.in-len1.len_below (sym c.in_err-cell-in-len1.was ∙ c.place_of.ensures)

pub returns-in_ok-cell-in-len1 : goal.returns-in_ok-cell-in-len1
returns-in_ok-cell-in-len1 c = read_found c.args.cells.now c.args.actor c.args.words.now _ (Some c.in_ok-cell-in-len1.cell) c.in-len1.len_at_least c.in-len1.len_below (sym c.in_ok-cell-in-len1.was ∙ c.place_of.ensures)
