use Rattle.std.proofs.Common.{◌∙◌, sym, ap, option_map}
use Rattle.turn_book.specs.Cuts.{parts_of}
use Rattle.turn_book.proofs.LineLemmas.{stretch_fits}
use Rattle.turn_book.proofs.lines.stretch_of.Goals as goal

pub returns-in-Some : goal.returns-in-Some
returns-in-Some c = stretch_fits c.args.line.now c.in-Some.thread.now c.in-Some.count.now c.number_of.result c.number_of-in-Some.result c.stretch_or.result (ap (option_map parts_of) (sym c.in-Some.is) ∙ c.cut.ensures) c.number_of.ensures c.number_of-in-Some.ensures c.stretch_or.ensures
