use Rattle.std.proofs.Common.{ap, ap₂}
use Rattle.label_table.specs.Tables.{Table, pair_of}
use Rattle.label_table.proofs.TableLemmas.{looked_up}
use Rattle.label_table.proofs.LabelTable.recall.Goals as goal

pub returns-clause-remembered : goal.returns-clause-remembered
returns-clause-remembered c =
    looked_up c.self.inside.answers.entries c.args.self.now.answers (ap (λ (t : Table). t.answers) c.self.view_is) _ (pair_of c.args.a c.args.b) c.recalled.result (ap₂ pair_of c.a.view_is c.b.view_is) c.recalled.ensures
