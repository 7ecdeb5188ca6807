use Rattle.std.proofs.Common.{◌∙◌, Some, sym, ap}
use Rattle.label_table.proofs.TableLemmas.{label_same}
use Rattle.label_table.proofs.put_label.Goals as goal

pub returns-clause-stands : goal.returns-clause-stands
returns-clause-stands c =
    let there = c.in_ok-at.ensures.stored in there.1 ∙ ap (λ l. Some l) (sym (label_same c.args.l there.0 there.2))
