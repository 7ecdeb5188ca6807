-- Places of different seats.
use Rattle.std.proofs.Common.{◌≡◌, ℕ, ◌<◌, ◌≤◌, List, [], ◌∷◌, length, Option, Some, sym, ap, ◌∙◌, arith}
use Rattle.std.specs.Prelude.{slice_get}
use Rattle.std.specs.List.{All}
use Rattle.std.proofs.lemmas.List.Elements.{All-weaker}
use Rattle.std.proofs.lemmas.Option.{slice_get_within}
use mathlib.Core.Option.{some}
use lib.ListN.{get_elem?}
use Rattle.atomic_table.specs.Table.{State}
use Rattle.seat_host.specs.declared.law.View.{View}
use Rattle.seat_host.specs.declared.law.Given.{Given}
use Rattle.seat_host.specs.Places.{Shared}
use Rattle.seat_host.specs.Law.{Keeps}
use Rattle.seat_host.specs.Laws.{PlacesApart}

pub apart : (g : Given) (s : State Shared View) (h : Keeps g s) (i j : ℕ) (v w : View) → (i ≡ j → ⊥) → get_elem? s.views i ≡ some v → get_elem? s.views j ≡ some w → PlacesApart h.ticket v w
apart g s h i j v w ne at at' =
    let f = h.views i v at in
    let f' = h.views j w at' in record {
      below = All-weaker (λ (e : ℕ × Option ℕ). (slice_get h.log e.0 ≡ Some e.1) × (h.owner e.0 ≡ i)) (λ (e : ℕ × Option ℕ). e.0 < h.ticket)
          (λ e k. let lt = slice_get_within h.log e.0 e.1 k.0 in let room = h.room in omega arith) v.mine f.mine;
      apart = All-weaker (λ (e : ℕ × Option ℕ). (slice_get h.log e.0 ≡ Some e.1) × (h.owner e.0 ≡ i)) (λ (e : ℕ × Option ℕ). All (λ (x : ℕ × Option ℕ). e.0 ≡ x.0 → ⊥) w.mine)
          (λ e k. All-weaker (λ (x : ℕ × Option ℕ). (slice_get h.log x.0 ≡ Some x.1) × (h.owner x.0 ≡ j)) (λ (x : ℕ × Option ℕ). e.0 ≡ x.0 → ⊥) (λ x k' same. ne (sym k.1 ∙ ap h.owner same ∙ k'.1)) w.mine f'.mine) v.mine f.mine;
    }
