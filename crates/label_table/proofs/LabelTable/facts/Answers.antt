use Rattle.std.proofs.Common.{sym, ap}
use Rattle.label_table.specs.Tables.{Table}
use Rattle.label_table.proofs.TableLemmas.{sound}
use Rattle.label_table.proofs.LabelTable.facts.Goals as goal

pub returns : goal.returns
returns c =
    sound _ _ _ c.self.invariant c.args.self.now (ap (λ (t : Table). t.labels) (sym c.self.view_is)) (ap (λ (t : Table). t.answers) (sym c.self.view_is)) (ap (λ (t : Table). t.room) (sym c.self.view_is))
