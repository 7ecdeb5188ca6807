use Rattle.std.proofs.Common.{sym, ◌∙◌, None}
use Rattle.play_script.proofs.WordLemmas.{write_found, short_write, long_write}
use Rattle.play_script.proofs.steps.write_of.Goals as goal

pub returns-in_err-cell-in-len2 : goal.returns-in_err-cell-in-len2
returns-in_err-cell-in-len2 c = c.from_residual.ensures ∙ write_found c.args.cells.now c.args.actor c.args.words.now _ None c.in-len2.len_at_least c.in-len2.len_below (sym c.in_err-cell-in-len2.was ∙ c.place_of.ensures)

pub returns-in_default : goal.returns-in_default
returns-in_default c = short_write c.args.cells.now c.args.actor c.args.words.now c.in_default.len_below

pub returns-in_default-2 : goal.returns-in_default-2
returns-in_default-2 c = long_write c.args.cells.now c.args.actor c.args.words.now c.in_default.len_at_least
