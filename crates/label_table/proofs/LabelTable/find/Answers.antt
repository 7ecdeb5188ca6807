use Rattle.std.proofs.Common.{◌≡◌, Some, IfSome, slice_get, sym, ap, subst}
use Rattle.label_table.specs.Tables.{Table}
use Rattle.label_table.proofs.TableLemmas.{number_stands}
use Rattle.label_table.proofs.LabelTable.find.Goals as goal

pub returns-clause-stands : goal.returns-clause-stands
returns-clause-stands c =
    subst (λ ls. IfSome c.find_number.result (λ n. slice_get ls n ≡ Some c.args.l.now)) (ap (λ (t : Table). t.labels) c.self.view_is)
    (subst (λ o. IfSome o (λ n. slice_get c.self.inside.labels.keys n ≡ Some c.args.l.now)) (sym c.find_number.ensures) (number_stands c.self.inside.labels.keys c.args.l.now))
