-- Private turns of the slot's thread in a row.
use Rattle.std.proofs.Common.{◌≡◌, ℕ, zero, suc, ◌+◌, ◌<◌, ◌≤◌, Bool, true, false, List, [], ◌∷◌, ◌++◌, length, Some, refl, sym, ap, ◌∙◌, subst, arith, append-nil, append_assoc}
use Rattle.std.specs.Prelude.{not, replicate}
use Rattle.flow_labels.specs.declared.Label.{Label}
use Rattle.flow_labels.specs.Flow.{flows}
use Rattle.lam_asks.specs.declared.answer.What.TheVariants.{Private}
use Rattle.lam_bytecode.specs.Codes.{CodeTree}
use Rattle.lam_machine_terms.specs.Worlds.{World}
use Rattle.lam_machine_terms.specs.Turns.{Moment, step, ready}
use Rattle.lam_machine.specs.Worlds.{IsSound}
use Rattle.lam_machine.specs.Asking.{label_at}
use Rattle.lam_machine.specs.Privately.{IsPrivateStep, ArePrivateSteps, private_event}
use Rattle.lam_machine.proofs.ManyPrivateLemmas.{labels_stay}
use Rattle.lam_machine_replay.specs.Keeping.{KeepsOneMore, LeavesPrivate}
use Rattle.lam_machine_replay.proofs.ProductLemmas.{products_told}
use Rattle.closed_terms.specs.declared.Slot.{Slot}
use Rattle.closed_terms.specs.Schedule.{quantum, is_inside, next_slot}
use Rattle.closed_run.specs.declared.places.Place.{Place}
use Rattle.closed_run.specs.Places.{with_turns}
use Rattle.closed_run.proofs.ReadyLemmas.{taken_ready, inside_label}
use Rattle.closed_run.proofs.NextLemmas.{own_next}
use Rattle.closed_run.proofs.ReachLemmas.{Reached, one_turn}

-- ---- one private turn

pub record OnePrivate (code : CodeTree) (t : ℕ) (w after : World) : Type 0 where
  pub moment : Moment
  pub takes : step code w t ≡ Some moment
  pub label : moment.event.label ≡ label_at w t
  pub what : moment.event.what ≡ Private
  pub world : moment.world ≡ after

pub one_private : (code : CodeTree) (t : ℕ) (w after : World) → IsPrivateStep code t w true after → OnePrivate code t w after
unfolding IsPrivateStep
one_private code t w after h =
    record {
      moment = record { event = private_event w t; made = h.1.made; world = after };
      takes = h.1.is;
      label = refl;
      what = refl;
      world = refl;
    }

-- the first of some
pub first_private : (code : CodeTree) (t n : ℕ) (w after : World) → ArePrivateSteps code t (suc n) w after → (v : World) × IsPrivateStep code t w true v
first_private code t zero w after steps = (after, subst (λ (v : World). IsPrivateStep code t v true after) steps.1 steps.2)
first_private code t (suc n) w after steps = first_private code t n w steps.0 steps.1

pub not_twice : (y x : Bool) → y ≡ not x → not y ≡ x
not_twice y true e = ap not e
not_twice y false e = ap not e

-- ---- in a row

more_of : (i t : ℕ) → replicate i t ++ t ∷ [] ≡ replicate (suc i) t
more_of zero t = refl
more_of (suc i) t = ap (λ (ts : List ℕ). t ∷ ts) (more_of i t)

module _ (o : Bool) (p : Place) where
  pub same_thread : (i : ℕ) → (with_turns o p i).slot.thread ≡ p.slot.thread
  same_thread i = by o
    where
      by : (x : Bool) → (with_turns x p i).slot.thread ≡ p.slot.thread
      by true = refl
      by false = refl

  pub none_yet : with_turns o p 0 ≡ p
  none_yet = by o
    where
      by : (x : Bool) → with_turns x p 0 ≡ p
      by true =
          let u : p.slot.used + 0 ≡ p.slot.used = omega arith in
          let k : p.open_turns + 0 ≡ p.open_turns = omega arith in
          λ i. record { slot = record { thread = p.slot.thread; used = u i }; open_turns = k i }
      by false = refl

  one_later : (i : ℕ) → with_turns o (with_turns o p i) 1 ≡ with_turns o p (suc i)
  one_later i = by o
    where
      by : (x : Bool) → with_turns x (with_turns x p i) 1 ≡ with_turns x p (suc i)
      by true =
          let u : p.slot.used + i + 1 ≡ p.slot.used + suc i = omega arith in
          let k : p.open_turns + i + 1 ≡ p.open_turns + suc i = omega arith in
          λ j. record { slot = record { thread = p.slot.thread; used = u j }; open_turns = k j }
      by false = refl

-- the slot's thread may take a turn from here
pub record MayGo (b : Label) (code : CodeTree) (w : World) (s : Slot) : Type 0 where
  pub sound : IsSound code w
  pub ready : ready code w s.thread ≡ true
  pub next : next_slot b code w s ≡ Some s

module _ {X : Type 0} (AreKept : List Moment → X → Type 0) (b : Label) (code : CodeTree) (Going : World → Slot → ℕ → ℕ → Type 0) (start : World) (leaves : LeavesPrivate AreKept) where
  -- one of who has the slot
  own_private : (ts : List ℕ) (w after : World) (p : Place) (x : X) → Reached X AreKept b code Going start ts w p x → IsPrivateStep code p.slot.thread w true after → (flows (label_at w p.slot.thread) b ≡ true → p.slot.used < quantum) → (MayGo b code w p.slot → Going w p.slot p.open_turns (length ts)) → Reached X AreKept b code Going start (ts ++ p.slot.thread ∷ []) after (with_turns (flows (label_at w p.slot.thread) b) p 1) x
  own_private ts w after p x r steps few going =
      let t : ℕ = p.slot.thread in
      let one = one_private code t w after steps in
      let m : Moment = one.moment in
      let is_ready = taken_ready code w t m one.takes in
      let inside : is_inside b w t ≡ not (flows (label_at w t) b) = inside_label code b w t m one.takes ∙ ap (λ l. not (flows l b)) one.label in
      let next = own_next b code w p.slot is_ready (λ e. few (sym (not_twice (is_inside b w t) (flows (label_at w t) b) inside) ∙ ap not e)) in
      let may : MayGo b code w p.slot = record { sound = r.sound; ready = is_ready; next = next } in
      let keeps : KeepsOneMore AreKept (length ts) m x x = λ ms many before. leaves ms m x one.what (products_told code w t m one.takes) before in
      let reached = one_turn AreKept b code Going start ts w p x x r (going may) p.slot next m one.takes keeps in
      subst (λ (v : World). Reached X AreKept b code Going start (ts ++ t ∷ []) v (with_turns (flows (label_at w t) b) p 1) x) one.world
      (subst (λ l. Reached X AreKept b code Going start (ts ++ t ∷ []) m.world (with_turns (flows l b) p 1) x) one.label reached)

  -- so many of them
  module _ (ts : List ℕ) (w : World) (p : Place) (x : X) (r : Reached X AreKept b code Going start ts w p x) where
    abbrev pub is_open : Bool
    is_open = flows (label_at w p.slot.thread) b

    pub row_zero : (after : World) → after ≡ w → Reached X AreKept b code Going start (ts ++ []) after (with_turns is_open p 0) x
    row_zero after same =
        subst (λ (v : World). Reached X AreKept b code Going start (ts ++ []) v (with_turns is_open p 0) x) (sym same)
        (subst (λ (q : Place). Reached X AreKept b code Going start (ts ++ []) w q x) (sym (none_yet is_open p))
        (subst (λ (us : List ℕ). Reached X AreKept b code Going start us w p x) (sym (append-nil ts)) r))

    pub row_taken : (n : ℕ) (after : World) → ArePrivateSteps code p.slot.thread n w after → (is_open ≡ true → p.slot.used + n ≤ quantum) → ((i : ℕ) (v : World) → i < n → MayGo b code v (with_turns is_open p i).slot → Going v (with_turns is_open p i).slot (with_turns is_open p i).open_turns (length (ts ++ replicate i p.slot.thread))) → Reached X AreKept b code Going start (ts ++ replicate n p.slot.thread) after (with_turns is_open p n) x
    row_taken zero after same few going = row_zero after same
    row_taken (suc n) after steps few going =
        let t : ℕ = p.slot.thread in
        let q : Place = with_turns is_open p n in
        let us : List ℕ = ts ++ replicate n t in
        let v : World = steps.0 in
        let so_far : Reached X AreKept b code Going start us v q x = row_taken n v steps.1 (λ e. let k = few e in omega (arith, k)) (λ i u le. going i u (omega (arith, le))) in
        let thread : t ≡ q.slot.thread = sym (same_thread is_open p n) in
        let label : label_at v q.slot.thread ≡ label_at w t = ap (label_at v) (sym thread) ∙ labels_stay code t n w v steps.1 in
        let same_open : flows (label_at v q.slot.thread) b ≡ is_open = ap (λ l. flows l b) label in
        let last : IsPrivateStep code q.slot.thread v true after = subst (λ (u : ℕ). IsPrivateStep code u v true after) thread steps.2 in
        let one = own_private us v after q x so_far last (λ e. used_few n (sym same_open ∙ e) (few (sym same_open ∙ e))) (going n v (omega arith)) in
        let list : us ++ q.slot.thread ∷ [] ≡ ts ++ replicate (suc n) t =
        ap (λ (u : ℕ). us ++ u ∷ []) (sym thread) ∙ append_assoc ts (replicate n t) (t ∷ []) ∙ ap (λ (zs : List ℕ). ts ++ zs) (more_of n t) in
        let place : with_turns (flows (label_at v q.slot.thread) b) q 1 ≡ with_turns is_open p (suc n) = ap (λ (y : Bool). with_turns y q 1) same_open ∙ one_later is_open p n in
        subst (λ (zs : List ℕ). Reached X AreKept b code Going start zs after (with_turns is_open p (suc n)) x) list
        (subst (λ (z : Place). Reached X AreKept b code Going start (us ++ q.slot.thread ∷ []) after z x) place one)
      where
        used_few : (i : ℕ) → is_open ≡ true → p.slot.used + suc i ≤ quantum → (with_turns is_open p i).slot.used < quantum
        used_few i e k = subst (λ (y : Bool). (with_turns y p i).slot.used < quantum) (sym e) (let h : p.slot.used + i < quantum = omega (arith, k) in h)
