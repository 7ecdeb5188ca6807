use Rattle.std.proofs.Common.{None}
use Rattle.flow_labels.specs.Failing.{write_test}
use Rattle.lam_machine_effects.specs.Serves.{does, sets_slot}
use Rattle.lam_machine_rows.proofs.RowLemmas.{refused_as, null_as, thing_as, clear_ok, thing_ok, whole}
use Rattle.lam_machine_rows.proofs.things.write.Goals as goal

pub returns-in_default : goal.returns-in_default
returns-in_default c = λ w k. null_as _ _ _ _ _ c.failed.ensures c.in_default.ensures

pub returns-in-Some-write_rule : goal.returns-in-Some-write_rule
returns-in-Some-write_rule c = λ w k. thing_as _ _ _ (λ n. write_test c.args.p.now n.own) (λ n. None) (λ n. does (sets_slot n c.args.at c.args.v.now)) c.in-Some.ensures (refused_as _ _ _ _ c.refused.ensures (rw c.own.ensures at c.in-Some-write_rule.ensures.value))

pub returns : goal.returns
returns c = whole _ _ (λ w k. thing_ok _ _ _ (λ n. write_test c.args.p.now n.own) (λ n. None) (λ n. does (sets_slot n c.args.at c.args.v.now)) c.in-Some.ensures (clear_ok _ _ _ (rw c.own.ensures at c.in_default-write_rule.ensures.value) (c.did.ensures _ c.sets_slot.ensures)))
