-- What holds of all seats of a shared run at every moment.
use Rattle.std.specs.Prelude.{◌≡◌, ℕ, ◌<◌, Option}
use Rattle.std.specs.List.{All}
use mathlib.Core.Option.{some}
use lib.ListN.{get_elem?}
use Rattle.atomic_table.specs.Table.{State}
use Rattle.seat_host.specs.declared.law.View.{View}
use Rattle.seat_host.specs.declared.law.Given.{Given}
use Rattle.seat_host.specs.Places.{Shared}
use Rattle.seat_host.specs.Law.{Keeps}

-- the places of a seat's own calls, below the ticket word; and those of another seat are others
pub record PlacesApart (ticket : ℕ) (v w : View) : Type 0 where
  pub below : All (λ (e : ℕ × Option ℕ). e.0 < ticket) v.mine
  pub apart : All (λ (e : ℕ × Option ℕ). All (λ (f : ℕ × Option ℕ). e.0 ≡ f.0 → ⊥) w.mine) v.mine

abbrev pub PlacesDiffer : Type 0
PlacesDiffer =
    (g : Given) (s : State Shared View) (h : Keeps g s) (i j : ℕ) (v w : View) → (i ≡ j → ⊥) → get_elem? s.views i ≡ some v → get_elem? s.views j ≡ some w →
    PlacesApart h.ticket v w
