use Rattle.std.proofs.Common.{◌∙◌, Some}
use Rattle.turn_book.proofs.CutLemmas.{no_mark, at_mark}
use Rattle.turn_book.proofs.lines.cut.Goals as goal

pub returns-in-None : goal.returns-in-None
returns-in-None c = no_mark c.args.mark c.args.text.now c.mark_place.result c.mark_place.ensures.value c.in-None.is

pub returns-in-Some : goal.returns-in-Some
returns-in-Some c = (λ i. Some (c.split_at.ensures.front i, c.split_at-in-Some.ensures.back i)) ∙ at_mark c.args.mark c.in-Some.at c.args.text.now c.mark_place.result c.mark_place.ensures.value c.in-Some.is
