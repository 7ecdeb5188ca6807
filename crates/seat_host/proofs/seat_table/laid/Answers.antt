use Rattle.std.proofs.Common.{◌≡◌, [], ◌∷◌, List, refl, ap, sym, ◌∙◌, subst}
use Rattle.atomic_table.specs.Table.{opening}
use Rattle.thread_host_run.specs.Runs.{Ran}
use Rattle.seat_host.specs.Places.{Shared, shared}
use Rattle.seat_host.specs.declared.law.Given.{Given}
use Rattle.seat_host.specs.Law.{Keeps, newcomer}
use Rattle.seat_host.proofs.Moves.{begins}
use Rattle.seat_host.proofs.seat_table.laid.Goals as goal

pub new-requires-2 : goal.new-requires-2
new-requires-2 c =
    let g : Given = c.args.given.now in
    let slots : shared g.code g.start [] ∷ [] ≡ c.in_ok-slots.slots.items =
    (λ i. shared (sym c.requires.code i) (sym c.requires.start i) [] ∷ []) ∙ ap (λ (k : Shared). k ∷ []) (sym c.new.ensures) ∙ sym c.in_ok-slots.ensures in
    subst (λ (xs : List Shared). Keeps g (opening (0 ∷ 0 ∷ []) xs (newcomer g))) slots (begins g)
