use Rattle.std.proofs.Common.{◌∙◌, ap}
use Rattle.lam_machine_effects.specs.Serving.{reference}
use Rattle.lam_value.specs.Homes.{home_of, name_of}
use Rattle.lam_machine_rows.proofs.RowLemmas.{fails_as, untested_as, untested_ok, makes_ok, holds_ok, whole}
use Rattle.lam_machine_rows.proofs.things.make_thing.Goals as goal

pub returns-in-Some : goal.returns-in-Some
returns-in-Some c = λ w k. untested_as _ _ (fails_as _ _ _ _ c.failed.ensures (rw c.next-number.ensures.value at c.in-Some.ensures))

pub returns : goal.returns
returns c = whole _ _ (λ w k. untested_ok _ _ (holds_ok _ _ _ (rw c.next-number.ensures.value at c.in_default.ensures)
    (makes_ok _ _ _ _ _
    (c.reference.ensures ∙ ap (λ m. reference c.args.shape.now m) (c.in_ok-name.ensures ∙ ap (λ n. name_of (home_of c.args.p.now c.args.p.now) n) c.next-number.ensures.value))
    (c.given.ensures _ c.adds_thing.ensures))))
