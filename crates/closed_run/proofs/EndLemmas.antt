-- Whether a closed run goes on, and that it stays within its limits.
use Rattle.std.proofs.Common.{◌≡◌, ℕ, zero, suc, ◌+◌, ◌<◌, ◌≤◌, Bool, true, false, List, [], ◌∷◌, ◌++◌, length, Option, Some, None, refl, sym, ap, ◌∙◌, subst, arith, length-append, lit<}
use Rattle.std.specs.Prelude.{cond, not, ◌&&◌, nat_lt, nat_le, is_none, replicate}
use Rattle.std.specs.Option.{option_map}
use Rattle.std.proofs.lemmas.Bool.Decides.{nat_tests}
use Rattle.std.proofs.lemmas.List.{length-replicate}
use Rattle.flow_labels.specs.declared.Label.{Label}
use Rattle.flow_labels.specs.Flow.{flows}
use Rattle.lam_bytecode.specs.Codes.{CodeTree}
use Rattle.lam_machine_terms.specs.Worlds.{World}
use Rattle.lam_machine_terms.specs.Turns.{Moment, ready}
use Rattle.lam_machine_laws.proofs.ThreadLemmas.{some_inj}
use Rattle.lam_machine.specs.Asking.{label_at}
use Rattle.lam_machine.specs.Privately.{ArePrivateSteps}
use Rattle.lam_machine_replay.specs.Keeping.{LeavesPrivate}
use Rattle.closed_terms.specs.declared.End.{End}
use Rattle.closed_terms.specs.declared.End.TheVariants.{Done, Cut, Over}
use Rattle.closed_terms.specs.declared.Slot.{Slot}
use Rattle.closed_terms.specs.Schedule.{slot_of, quantum, is_inside, next_ready, next_slot}
use Rattle.closed_terms.specs.Ends.{all_ended, most_turns, idle, end_at, IsEnded}
use Rattle.closed_run.specs.declared.places.Place.{Place}
use Rattle.closed_run.specs.Places.{Fits, HasRoom, with_turns}
use Rattle.closed_run.specs.declared.turns.Coming.{Coming}
use Rattle.closed_run.specs.declared.turns.Coming.TheVariants.{Next, Ends}
use Rattle.closed_run.specs.Going.{Comes, TakesRow, TakesOne}
use Rattle.closed_run.proofs.ReadyLemmas.{not_all_ended, inside_label}
use Rattle.closed_run.proofs.NextLemmas.{lt_of, le_true, le_false}
use Rattle.closed_run.proofs.ReachLemmas.{Reached, one_taken, at_last}
use Rattle.closed_run.proofs.RowLemmas.{one_private, first_private, not_twice, none_yet, row_zero, row_taken}

-- ---- whether it ends here

abbrev end_by : Bool → Bool → Bool → Bool → Bool → Option End
end_by a c d i f = cond a (Some Done) (cond c (Some Cut) (cond d (Some (idle i)) (cond f (Some Over) None)))

none_is : {X : Type 0} (e : End) → Some e ≡ None → X
none_is e h = absurd cc

pub record GoesOn (a c d f : Bool) : Type 0 where
  pub lives : a ≡ false
  pub left : c ≡ false
  pub next : d ≡ false
  pub more : f ≡ false

going : (a c d i f : Bool) → end_by a c d i f ≡ None → GoesOn a c d f
going true c d i f h = none_is Done h
going false true d i f h = none_is Cut h
going false false true i f h = none_is (idle i) h
going false false false i true h = none_is Over h
going false false false i false h = record { lives = refl; left = refl; next = refl; more = refl }

module _ (b : Label) (code : CodeTree) (n : ℕ) (w : World) (s : Slot) (k j : ℕ) where
  pub goes_parts : end_at b code n w s k j ≡ None → GoesOn (all_ended w.threads) (nat_le n k) (is_none (next_slot b code w s)) (nat_le most_turns j)
  goes_parts h = going (all_ended w.threads) (nat_le n k) (is_none (next_slot b code w s)) (is_inside b w s.thread) (nat_le most_turns j) h

  end_is : (a c d i f : Bool) → all_ended w.threads ≡ a → nat_le n k ≡ c → is_none (next_slot b code w s) ≡ d → is_inside b w s.thread ≡ i → nat_le most_turns j ≡ f → end_at b code n w s k j ≡ end_by a c d i f
  end_is a c d i f ea ec ed ei ef = λ z. end_by (ea z) (ec z) (ed z) (ei z) (ef z)

  pub ends_done : all_ended w.threads ≡ true → end_at b code n w s k j ≡ Some Done
  ends_done e = end_is true _ _ _ _ e refl refl refl refl

  pub ends_cut : all_ended w.threads ≡ false → n ≤ k → end_at b code n w s k j ≡ Some Cut
  ends_cut e l = end_is false true _ _ _ e (le_true n k l) refl refl refl

  pub ends_idle : (i : Bool) → all_ended w.threads ≡ false → k < n → next_slot b code w s ≡ None → is_inside b w s.thread ≡ i → end_at b code n w s k j ≡ Some (idle i)
  ends_idle i e l next inside = end_is false false true i _ e (le_false n k l) (ap is_none next) inside refl

  pub ends_over : (next : Slot) → all_ended w.threads ≡ false → k < n → next_slot b code w s ≡ Some next → most_turns ≤ j → end_at b code n w s k j ≡ Some Over
  ends_over next e l is many = end_is false false false _ true e (le_false n k l) (ap is_none is) refl (le_true most_turns j many)

  pub goes_on : (next : Slot) → all_ended w.threads ≡ false → k < n → next_slot b code w s ≡ Some next → j < most_turns → end_at b code n w s k j ≡ None
  goes_on next e l is few = end_is false false false _ false e (le_false n k l) (ap is_none is) refl (le_false most_turns j few)

abbrev pub Goes : Label → CodeTree → ℕ → World → Slot → ℕ → ℕ → Type 0
Goes b code n w s k j = end_at b code n w s k j ≡ None

-- as the code finds it
module _ (b : Label) (code : CodeTree) (n : ℕ) (w : World) (p : Place) (j m : ℕ) (same : j ≡ m) (x : Coming) (comes : Comes b code n w p j x) where
  pub ends_here : (e : End) → x ≡ Ends e → end_at b code n w p.slot p.open_turns m ≡ Some e
  ends_here e is = subst (λ (i : ℕ). end_at b code n w p.slot p.open_turns i ≡ Some e) same (subst (λ (y : Coming). Comes b code n w p j y) is comes)

  pub next_here : (s : Slot) → x ≡ Next s → (end_at b code n w p.slot p.open_turns m ≡ None) × (next_slot b code w p.slot ≡ Some s)
  next_here s is =
      let it = subst (λ (y : Coming). Comes b code n w p j y) is comes in
      (subst (λ (i : ℕ). end_at b code n w p.slot p.open_turns i ≡ None) same it.0, it.1)

-- ---- the next slot is within the limits

pub record IsFew (b : Label) (w : World) (next : Slot) : Type 0 where
  pub most : next.used ≤ quantum
  pub outside : is_inside b w next.thread ≡ false → next.used < quantum

new_used : (x : Option ℕ) (next : Slot) → option_map slot_of x ≡ Some next → next.used ≡ 0
new_used None next e = absurd cc
new_used (Some t) next e = ap (λ (s : Slot). s.used) (sym (some_inj (record { thread = t; used = 0 }) next e))

few_new : (b : Label) (w : World) (next : Slot) → next.used ≡ 0 → IsFew b w next
few_new b w next e =
    let some : 0 < quantum = lit< tt in
    record { most = omega (arith, e, some); outside = λ _. omega (arith, e, some) }

few_same : (b : Label) (w : World) (s next : Slot) → s ≡ next → IsFew b w s → IsFew b w next
few_same b w s next e h = subst (λ (x : Slot). IsFew b w x) e h

pub next_few : (b : Label) (code : CodeTree) (w : World) (s next : Slot) → s.used ≤ quantum → next_slot b code w s ≡ Some next → IsFew b w next
next_few b code w s next few h = go (is_inside b w s.thread) refl (ready code w s.thread) (nat_lt s.used quantum) refl h
  where
    less : (x : Bool) → nat_lt s.used quantum ≡ x → x ≡ true → s.used < quantum
    less x e t = let k : nat_lt s.used quantum ≡ true = e ∙ t in grind (arith, nat_tests, k)

    apart : is_inside b w s.thread ≡ true → is_inside b w s.thread ≡ false → s.used < quantum
    apart e f = let no : true ≡ false = sym e ∙ f in absurd cc

    go : (i : Bool) → is_inside b w s.thread ≡ i → (r q : Bool) → nat_lt s.used quantum ≡ q → cond i (cond r (Some s) None) (cond (r && q) (Some s) (option_map slot_of (next_ready code w s.thread))) ≡ Some next → IsFew b w next
    go true e true q f h = few_same b w s next (some_inj s next h) (record { most = few; outside = apart e })
    go true e false q f h = absurd cc
    go false e true true f h = few_same b w s next (some_inj s next h) (record { most = few; outside = λ _. less true f refl })
    go false e true false f h = few_new b w next (new_used (next_ready code w s.thread) next h)
    go false e false q f h = few_new b w next (new_used (next_ready code w s.thread) next h)

-- ---- a row

open_less : (o : Bool) (p : Place) (n i c : ℕ) → i < c → (0 < c → p.open_turns < n) → (o ≡ true → p.open_turns + c ≤ n) → (with_turns o p i).open_turns < n
open_less true p n i c l some all = let k = all refl in omega (arith, l, k)
open_less false p n i c l some all = some (omega (arith, l))

long : (ts : List ℕ) (i t : ℕ) → length (ts ++ replicate i t) ≡ length ts + i
long ts i t = length-append ts (replicate i t) ∙ ap (λ k. length ts + k) (length-replicate i t)

module _ {X : Type 0} (AreKept : List Moment → X → Type 0) (b : Label) (code : CodeTree) (n : ℕ) (start : World) where
  abbrev pub IsSoFar : List ℕ → World → Place → X → Type 0
  IsSoFar ts w p x = Reached X AreKept b code (Goes b code n) start ts w p x

  counted : (count : ℕ) (ts : List ℕ) (w after : World) (p : Place) (x : X) → LeavesPrivate AreKept → IsSoFar ts w p x → ArePrivateSteps code p.slot.thread count w after → HasRoom (not (is_inside b w p.slot.thread)) p n (length ts) count → IsSoFar (ts ++ replicate count p.slot.thread) after (with_turns (not (is_inside b w p.slot.thread)) p count) x
  counted zero ts w after p x leaves r steps room =
      let t : ℕ = p.slot.thread in
      let o : Bool = flows (label_at w t) b in
      let none : with_turns o p 0 ≡ with_turns (not (is_inside b w t)) p 0 = none_yet o p ∙ sym (none_yet (not (is_inside b w t)) p) in
      subst (λ (q : Place). IsSoFar (ts ++ []) after q x) none
      (row_zero AreKept b code (Goes b code n) start leaves ts w p x r after steps)
  counted (suc count) ts w after p x leaves r steps room =
      let t : ℕ = p.slot.thread in
      let o : Bool = flows (label_at w t) b in
      let first = first_private code t count w after steps in
      let one = one_private code t w first.0 first.1 in
      let same : not (is_inside b w t) ≡ o = not_twice (is_inside b w t) o (inside_label code b w t one.moment one.takes ∙ ap (λ l. not (flows l b)) one.label) in
      let fits : HasRoom o p n (length ts) (suc count) = subst (λ (y : Bool). HasRoom y p n (length ts) (suc count)) same room in
      subst (λ (y : Bool). IsSoFar (ts ++ replicate (suc count) t) after (with_turns y p (suc count)) x) (sym same)
      (row_taken AreKept b code (Goes b code n) start leaves ts w p x r (suc count) after steps fits.slot (λ i v l may. let turns = fits.turns in let many = long ts i t in goes_on b code n v (with_turns o p i).slot (with_turns o p i).open_turns (length (ts ++ replicate i t)) (with_turns o p i).slot (not_all_ended code v (with_turns o p i).slot.thread may.sound may.ready) (open_less o p n i (suc count) l fits.some fits.budget) may.next (omega (arith, turns, many, l))))

  pub after_row : (ts us : List ℕ) (w after : World) (p q : Place) (x : X) → LeavesPrivate AreKept → IsSoFar ts w p x → TakesRow b code n p q ts us w after → IsSoFar us after q x
  after_row ts us w after p q x leaves r row =
      subst (λ (zs : List ℕ). IsSoFar zs after q x) (sym row.turns)
      (subst (λ (z : Place). IsSoFar (ts ++ replicate row.count p.slot.thread) after z x) (sym row.place) (counted row.count ts w after p x leaves r row.steps row.room))

  pub at_end : (ts : List ℕ) (w : World) (p : Place) (x : X) (e : End) → IsSoFar ts w p x → end_at b code n w p.slot p.open_turns (length ts) ≡ Some e → IsEnded b code n e ts start
  at_end ts w p x e r h = at_last AreKept b code (Goes b code n) start (λ v s k j. end_at b code n v s k j ≡ Some e) ts w p x r h

-- ---- within the limits

fits_on : (o : Bool) (n j : ℕ) (p : Place) (c : ℕ) → Fits n j p → HasRoom o p n j c → Fits n (j + c) (with_turns o p c)
fits_on true n j p c f r = record { slot = r.slot refl; budget = r.budget refl; turns = r.turns }
fits_on false n j p c f r = record { slot = f.slot; budget = f.budget; turns = r.turns }

module _ (b : Label) (code : CodeTree) (n : ℕ) (ts us : List ℕ) (w after : World) (p q : Place) where
  pub row_fits : Fits n (length ts) p → TakesRow b code n p q ts us w after → Fits n (length us) q
  row_fits f row =
      let count : length us ≡ length ts + row.count = ap length row.turns ∙ long ts row.count p.slot.thread in
      subst (λ (z : Place). Fits n (length us) z) (sym row.place)
      (subst (λ (j : ℕ). Fits n j (with_turns (not (is_inside b w p.slot.thread)) p row.count)) (sym count) (fits_on (not (is_inside b w p.slot.thread)) n (length ts) p row.count f row.room))

  pub row_longer : TakesRow b code n p q ts us w after → length ts ≤ length us
  row_longer row =
      let count : length us ≡ length ts + row.count = ap length row.turns ∙ long ts row.count p.slot.thread in
      omega (arith, count)

one_fits : (o : Bool) (n j : ℕ) (p : Place) → p.slot.used ≤ quantum → (o ≡ true → p.slot.used < quantum) → p.open_turns < n → j < most_turns → Fits n (j + 1) (with_turns o p 1)
one_fits true n j p most less left more = let l = less refl in record { slot = omega (arith, l); budget = omega (arith, left); turns = omega (arith, more) }
one_fits false n j p most less left more = record { slot = most; budget = omega (arith, left); turns = omega (arith, more) }

module _ {X : Type 0} (AreKept : List Moment → X → Type 0) (b : Label) (code : CodeTree) (n : ℕ) (ts us : List ℕ) (w after : World) (p q : Place) (next : Slot) (x y : X) where
  pub turn_longer : TakesOne b code AreKept (record { slot = next; open_turns = p.open_turns }) q ts us w after x y → length us ≡ length ts + 1
  turn_longer one = ap length one.turns ∙ length-append ts (next.thread ∷ [])

  pub turn_fits : Fits n (length ts) p → end_at b code n w p.slot p.open_turns (length ts) ≡ None → next_slot b code w p.slot ≡ Some next → TakesOne b code AreKept (record { slot = next; open_turns = p.open_turns }) q ts us w after x y → Fits n (length us) q
  turn_fits f goes is one =
      let parts = goes_parts b code n w p.slot p.open_turns (length ts) goes in
      let few = next_few b code w p.slot next f.slot is in
      let m : Moment = record { event = one.event; made = one.turn.made; world = after } in
      let o : Bool = flows one.event.label b in
      let inside : is_inside b w next.thread ≡ not o = inside_label code b w next.thread m one.turn.is in
      let r : Place = record { slot = next; open_turns = p.open_turns } in
      subst (λ (z : Place). Fits n (length us) z) (sym one.place)
      (subst (λ (j : ℕ). Fits n j (with_turns o r 1)) (sym (turn_longer one)) (one_fits o n (length ts) r few.most (λ e. few.outside (inside ∙ ap not e)) (lt_of n p.open_turns parts.left) (lt_of most_turns (length ts) parts.more)))

  pub after_turn : (start : World) → IsSoFar AreKept b code n start ts w p x → end_at b code n w p.slot p.open_turns (length ts) ≡ None → next_slot b code w p.slot ≡ Some next → TakesOne b code AreKept (record { slot = next; open_turns = p.open_turns }) q ts us w after x y → IsSoFar AreKept b code n start us after q y
  after_turn start r goes is one = one_taken AreKept b code (Goes b code n) start ts us w after p q x y r goes next is one
