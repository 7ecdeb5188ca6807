use Rattle.flow_labels.specs.Failing.{same_test}
use Rattle.monitor_core.specs.Held.{most_takings, takings}
use Rattle.lam_asks.specs.declared.fault.Fault.TheVariants.{Deep}
use Rattle.lam_machine_effects.specs.Serves.{does, full, takes_monitor}
use Rattle.lam_machine_rows.proofs.RowLemmas.{refused_as, passes_as, fails_as, null_as, thing_as, passes_ok, holds_ok, thing_ok, whole}
use Rattle.lam_machine_rows.proofs.things.enter_monitor.Goals as goal

pub returns-in_default : goal.returns-in_default
returns-in_default c = λ w k. null_as _ _ _ _ _ c.failed.ensures c.in_default.ensures

pub returns-in-Some-same_rule : goal.returns-in-Some-same_rule
returns-in-Some-same_rule c = λ w k. thing_as _ _ _ (λ n. same_test c.args.p.now n.own) (λ n. full (takings c.args.monitors.now n) most_takings Deep) (λ n. does (takes_monitor n)) c.in-Some.ensures (refused_as _ _ _ _ c.refused.ensures (rw c.own.ensures at c.in-Some-same_rule.ensures.value))

pub returns-in-Some-full : goal.returns-in-Some-full
returns-in-Some-full c = λ w k. thing_as _ _ _ (λ n. same_test c.args.p.now n.own) (λ n. full (takings c.args.monitors.now n) most_takings Deep) (λ n. does (takes_monitor n)) c.in-Some.ensures (passes_as _ _ _ (rw c.own.ensures at c.in_default-same_rule.ensures.value) (fails_as _ _ _ _ c.failed-in-Some-full.ensures (rw c.takings.ensures at c.in-Some-full.ensures)))

pub returns : goal.returns
returns c = whole _ _ (λ w k. thing_ok _ _ _ (λ n. same_test c.args.p.now n.own) (λ n. full (takings c.args.monitors.now n) most_takings Deep) (λ n. does (takes_monitor n)) c.in-Some.ensures (passes_ok _ _ _ (rw c.own.ensures at c.in_default-same_rule.ensures.value) (holds_ok _ _ _ (rw c.takings.ensures at c.in_default-full.ensures) (c.did.ensures _ c.takes_monitor.ensures))))
