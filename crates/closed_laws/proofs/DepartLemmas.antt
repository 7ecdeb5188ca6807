-- The first turn that is not the schedule's.
use Rattle.std.proofs.Common.{◌≡◌, ℕ, zero, suc, ◌+◌, Bool, true, false, List, [], ◌∷◌, Option, Some, None, take, refl, sym, ap, ◌∙◌, subst, arith}
use Rattle.std.specs.Prelude.{cond, nat_eq, slice_get}
use Rattle.flow_labels.specs.declared.Label.{Label}
use Rattle.lam_machine_effects.specs.Codes.{CodeTree}
use Rattle.lam_machine_effects.specs.Worlds.{World}
use Rattle.lam_machine_effects.specs.Turns.{Moment, step}
use Rattle.closed_terms.specs.declared.Departure.{Departure}
use Rattle.closed_terms.specs.declared.Slot.{Slot}
use Rattle.closed_terms.specs.Departures.{departs_unless, departure_from, departure}
use Rattle.closed_terms.specs.Schedule.{first_slot, next_slot, after, IsClosed}
use Rattle.lam_machine_laws.proofs.OwnLemmas.{same_number, other_number}
use Rattle.lam_machine_laws.proofs.ThreadLemmas.{some_inj}
use Rattle.closed_laws.specs.Departs.{IsFirstDeparture, DeparturesAreFirst}
use Rattle.closed_laws.proofs.NextLemmas.{some_none, none_some, rest_at}

module _ (b : Label) (code : CodeTree) where
  -- what comes of the turns behind one that follows
  abbrev rest_of : List ℕ → ℕ → Slot → Moment → Option Departure
  rest_of ts k next m = departure_from b code ts m.world (after b next m) (suc k)

  -- the first of some turns follows, or departs, and then no run with it is closed
  data First (w : World) (s : Slot) (t : ℕ) (ts : List ℕ) (k : ℕ) : Type 0 where
    follows : (next : Slot) (m : Moment) → next_slot b code w s ≡ Some next → next.thread ≡ t → step code w t ≡ Some m → departure_from b code (t ∷ ts) w s k ≡ rest_of ts k next m → First w s t ts k
    departs : ((us : List ℕ) → IsClosed b code (t ∷ us) w s → ⊥) → departure_from b code (t ∷ ts) w s k ≡ Some (record { turn = k; thread = t }) → First w s t ts k

  first : (w : World) (s : Slot) (t : ℕ) (ts : List ℕ) (k : ℕ) → First w s t ts k
  first w s t ts k = by (next_slot b code w s) refl (step code w t) refl
    where
      here : Departure
      here = record { turn = k; thread = t }

      by_thread : (next : Slot) (m : Moment) → next_slot b code w s ≡ Some next → step code w t ≡ Some m → (q : Bool) → nat_eq next.thread t ≡ q → First w s t ts k
      by_thread next m e f true g = follows next m e (same_number next.thread t g) f ((λ i. departs_unless (e i) (f i) here (rest_of ts k)) ∙ ap (λ q. cond q (rest_of ts k next m) (Some here)) g)
      by_thread next m e f false g =
          departs (λ us c. other_number next.thread t g (sym c.thread ∙ ap (λ (x : Slot). x.thread) (some_inj c.slot next (sym c.next ∙ e))))
          ((λ i. departs_unless (e i) (f i) here (rest_of ts k)) ∙ ap (λ q. cond q (rest_of ts k next m) (Some here)) g)

      by : (x : Option Slot) → next_slot b code w s ≡ x → (y : Option Moment) → step code w t ≡ y → First w s t ts k
      by None e y f = departs (λ us c. none_some c.slot (sym e ∙ c.next)) (ap (λ x. departs_unless x (step code w t) here (rest_of ts k)) e)
      by (Some next) e None f = departs (λ us c. none_some c.it (sym f ∙ c.takes)) (λ i. departs_unless (e i) (f i) here (rest_of ts k))
      by (Some next) e (Some m) f = by_thread next m e f (nat_eq next.thread t) refl

  -- ---- no departure

  all_closed : (ts : List ℕ) (w : World) (s : Slot) (k : ℕ) → departure_from b code ts w s k ≡ None → IsClosed b code ts w s
  all_closed [] w s k h = tt
  all_closed (t ∷ ts) w s k h = by (first w s t ts k) (λ v u. all_closed ts v u (suc k))
    where
      by : First w s t ts k → ((v : World) (u : Slot) → departure_from b code ts v u (suc k) ≡ None → IsClosed b code ts v u) → IsClosed b code (t ∷ ts) w s
      by (follows next m e th f p) on = record { slot = next; it = m; next = e; thread = th; takes = f; rest = on m.world (after b next m) (sym p ∙ h) }
      by (departs never p) on = some_none (record { turn = k; thread = t }) (sym p ∙ h)

  none_departs : (ts : List ℕ) (w : World) (s : Slot) (k : ℕ) → IsClosed b code ts w s → departure_from b code ts w s k ≡ None
  none_departs [] w s k c = refl
  none_departs (t ∷ ts) w s k c = by (first w s t ts k) (λ v u. none_departs ts v u (suc k))
    where
      by : First w s t ts k → ((v : World) (u : Slot) → IsClosed b code ts v u → departure_from b code ts v u (suc k) ≡ None) → departure_from b code (t ∷ ts) w s k ≡ None
      by (follows next m e th f p) on = p ∙ on m.world (after b next m) (rest_at b code w s t next m c e f)
      by (departs never p) on = absurd (never ts c)

  -- ---- a departure

  -- the first departure stands at this place of the turns, of which the first has the number k
  record Found (ts : List ℕ) (w : World) (s : Slot) (k : ℕ) (d : Departure) : Type 0 where
    place : ℕ
    turn : d.turn ≡ k + place
    thread : slice_get ts place ≡ Some d.thread
    before : IsClosed b code (take place ts) w s
    with_it : IsClosed b code (take (suc place) ts) w s → ⊥

  found : (ts : List ℕ) (w : World) (s : Slot) (k : ℕ) (d : Departure) → departure_from b code ts w s k ≡ Some d → Found ts w s k d
  found [] w s k d h = none_some d h
  found (t ∷ ts) w s k d h = by (first w s t ts k) (λ v u. found ts v u (suc k) d)
    where
      by : First w s t ts k → ((v : World) (u : Slot) → departure_from b code ts v u (suc k) ≡ Some d → Found ts v u (suc k) d) → Found (t ∷ ts) w s k d
      by (follows next m e th f p) on =
          let more = on m.world (after b next m) (sym p ∙ h) in
          record {
            place = suc more.place;
            turn = more.turn ∙ omega arith;
            thread = more.thread;
            before = record { slot = next; it = m; next = e; thread = th; takes = f; rest = more.before };
            with_it = λ c. more.with_it (rest_at b code w s t next m c e f);
          }
      by (departs never p) on =
          let same = some_inj (record { turn = k; thread = t }) d (sym p ∙ h) in
          record {
            place = 0;
            turn = ap (λ (x : Departure). x.turn) (sym same) ∙ omega arith;
            thread = ap (λ (x : Departure). Some x.thread) same;
            before = tt;
            with_it = never [];
          }

  is_found : (place : ℕ) (ts : List ℕ) (w : World) (s : Slot) (k : ℕ) (d : Departure) → d.turn ≡ k + place → slice_get ts place ≡ Some d.thread → IsClosed b code (take place ts) w s → (IsClosed b code (take (suc place) ts) w s → ⊥) → departure_from b code ts w s k ≡ Some d
  is_found place [] w s k d n at c open_with = absurd cc
  is_found zero (t ∷ ts) w s k d n at c open_with = by (first w s t ts k)
    where
      by : First w s t ts k → departure_from b code (t ∷ ts) w s k ≡ Some d
      by (follows next m e th f p) = absurd (open_with (record { slot = next; it = m; next = e; thread = th; takes = f; rest = tt }))
      by (departs never p) =
          let turn : k ≡ d.turn = omega (arith, n) in
          let thread = some_inj t d.thread at in
          p ∙ (λ i. Some (record { turn = turn i; thread = thread i }))
  is_found (suc place) (t ∷ ts) w s k d n at c open_with = by (first w s t ts k) (λ v u. is_found place ts v u (suc k) d (n ∙ omega arith) at)
    where
      by : First w s t ts k → ((v : World) (u : Slot) → IsClosed b code (take place ts) v u → (IsClosed b code (take (suc place) ts) v u → ⊥) → departure_from b code ts v u (suc k) ≡ Some d) → departure_from b code (t ∷ ts) w s k ≡ Some d
      by (follows next m e th f p) on =
          p ∙ on m.world (after b next m) (rest_at b code w s t next m c e f)
          (λ more. open_with (record { slot = next; it = m; next = e; thread = th; takes = f; rest = more }))
      by (departs never p) on = absurd (never (take place ts) c)

is_first : (b : Label) (code : CodeTree) (start : World) (turns : List ℕ) (d : Departure) → departure b code turns start ≡ Some d → IsFirstDeparture b code turns start d
is_first b code start turns d h =
    let f = found b code turns start first_slot 0 d h in
    let same : f.place ≡ d.turn = omega (arith, f.turn) in
    record {
      thread = ap (slice_get turns) (sym same) ∙ f.thread;
      before = subst (λ x. IsClosed b code (take x turns) start first_slot) same f.before;
      with_it = λ c. f.with_it (subst (λ x. IsClosed b code (take (suc x) turns) start first_slot) (sym same) c);
    }

pub departures_first : (code : CodeTree) (b : Label) → DeparturesAreFirst code b
departures_first code b =
    record {
      none = λ start turns. (all_closed b code turns start first_slot 0, none_departs b code turns start first_slot 0);
      first = λ start turns d. (is_first b code start turns d, λ h. is_found b code d.turn turns start first_slot 0 d (omega arith) h.thread h.before h.with_it);
    }
