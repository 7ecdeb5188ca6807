use Rattle.std.proofs.Common.{◌≡◌, length, ap, sym}
use Rattle.lam_value.specs.declared.values.Value.TheVariants as value
use Rattle.lam_machine_rows.proofs.RowLemmas.{refused_as, passes_as, fails_as, makes_ok, passes_ok, holds_ok, whole_where}
use Rattle.lam_machine_rows.proofs.contexts.spawn.Goals as goal

pub returns-in-Some : goal.returns-in-Some
returns-in-Some c = λ w k h. refused_as _ _ _ _ c.refused.ensures c.in-Some.ensures

pub returns-in-Some-full : goal.returns-in-Some-full
returns-in-Some-full c = λ w k h. passes_as _ _ _ c.in_default.ensures (fails_as _ _ _ _ c.failed.ensures (rw (c.from.ensures, ← h) at c.in-Some-full.ensures))

pub returns : goal.returns
returns c = whole_where _ (λ w k. length w.threads ≡ c.args.threads) _ (λ w k h. passes_ok _ _ _ c.in_default.ensures (holds_ok _ _ _ (rw (c.from.ensures, ← h) at c.in_default-full.ensures) (makes_ok _ _ _ _ _ (ap (λ n. value.Thread n) (sym h)) (c.given.ensures _ c.adds_thread.ensures))))
