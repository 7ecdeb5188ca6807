use Rattle.std.proofs.Common.{◌∙◌, sym, ap}
use Rattle.std.specs.FinMap.{len}
use Rattle.label_table.specs.Tables.{Table}
use Rattle.label_table.proofs.TableLemmas.{count_seen}
use Rattle.label_table.proofs.LabelTable.remembered.Goals as goal

pub returns-clause-count : goal.returns-clause-count
returns-clause-count c = c.len.ensures.len ∙ sym (count_seen c.self.inside.answers.entries c.self.invariant.unique) ∙ ap (λ (t : Table). len t.answers) c.self.view_is
