use Rattle.std.proofs.Common.{◌∙◌, ap}
use Rattle.lam_value.specs.declared.values.Value.TheVariants as value
use Rattle.lam_value.specs.Homes.{home_of, name_of}
use Rattle.lam_machine_rows.proofs.RowLemmas.{refused_as, passes_as, fails_as, makes_ok, passes_ok, holds_ok, whole}
use Rattle.lam_machine_rows.proofs.pipes.make_pipe.Goals as goal

pub returns-in-Some : goal.returns-in-Some
returns-in-Some c = λ w k. refused_as _ _ _ _ c.refused.ensures c.in-Some.ensures

pub returns-in-Some-full : goal.returns-in-Some-full
returns-in-Some-full c = λ w k. passes_as _ _ _ c.in_default.ensures (fails_as _ _ _ _ c.failed.ensures (rw c.next-number.ensures.value at c.in-Some-full.ensures))

pub returns : goal.returns
returns c = whole _ _ (λ w k. passes_ok _ _ _ c.in_default.ensures (holds_ok _ _ _ (rw c.next-number.ensures.value at c.in_default-full.ensures)
    (makes_ok _ _ _ _ _
    (ap (λ m. value.Pipe m) (c.in_ok-name.ensures ∙ ap (λ n. name_of (home_of c.args.p.now c.args.own.now) n) c.next-number.ensures.value))
    (c.given.ensures _ c.adds_pipe.ensures))))
