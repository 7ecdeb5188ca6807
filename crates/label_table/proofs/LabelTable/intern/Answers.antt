use Rattle.std.proofs.Common.{sym, subst}
use Rattle.label_table.specs.Tables.{IsAnswer, IsKept}
use Rattle.label_table.proofs.TableLemmas.{either_way, kept_labels, answer_stays}
use Rattle.label_table.proofs.LabelTable.intern.Goals as goal

pub invariant_of-self : goal.invariant_of-self
invariant_of-self c =
    either_way (IsKept c.put_label.new.labels c.self.inside.answers c.self.inside.room) c.put_label.result c.put_label.ensures.ok c.put_label.ensures.err
    (λ is. kept_labels _ _ _ c.self.invariant c.put_label.new.labels c.put_label.ensures.distinct (λ p b a. subst (λ ls. IsAnswer ls p b) (sym is) (answer_stays c.self.inside.labels.keys c.args.l p b a)))
    (λ same. kept_labels _ _ _ c.self.invariant c.put_label.new.labels c.put_label.ensures.distinct (λ p b a. subst (λ ls. IsAnswer ls p b) (sym same) a))
