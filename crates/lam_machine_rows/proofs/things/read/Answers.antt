use Rattle.flow_labels.specs.Failing.{read_test}
use Rattle.lam_machine_effects.specs.Serves.{answers}
use Rattle.lam_machine_effects.specs.Serving.{slot_at}
use Rattle.std.proofs.Common.{None, ap}
use Rattle.lam_asks.specs.declared.answer.Answer.TheVariants as answer
use Rattle.lam_machine_rows.proofs.RowLemmas.{answers_as, refused_as, clear_as, null_as, thing_as}
use Rattle.lam_machine_rows.proofs.things.read.Goals as goal

pub returns-in_default : goal.returns-in_default
returns-in_default c = λ w k. null_as _ _ _ _ _ c.failed.ensures c.in_default.ensures

pub returns-in-Some-read_rule : goal.returns-in-Some-read_rule
returns-in-Some-read_rule c = λ w k. thing_as _ _ _ (λ n. read_test c.args.p.now n.own) (λ n. None) (λ n. answers (answer.Val (slot_at c.args.heap.now n c.args.at))) c.in-Some.ensures (refused_as _ _ _ _ c.refused.ensures (rw c.own.ensures at c.in-Some-read_rule.ensures.value))

pub returns : goal.returns
returns c = λ w k. thing_as _ _ _ (λ n. read_test c.args.p.now n.own) (λ n. None) (λ n. answers (answer.Val (slot_at c.args.heap.now n c.args.at))) c.in-Some.ensures (clear_as _ _ _ (rw c.own.ensures at c.in_default-read_rule.ensures.value) (answers_as _ _ _ c.gives.ensures (ap (λ v. answer.Val v) c.in_ok-v.ensures)))
