-- Turns of the schedule so far, and one more.
use Rattle.std.proofs.Common.{◌≡◌, ℕ, suc, ◌+◌, Bool, true, false, List, [], ◌∷◌, ◌++◌, length, Some, refl, sym, ap, ◌∙◌, subst, arith, length-append}
use Rattle.std.specs.Prelude.{cond}
use Rattle.flow_labels.specs.declared.Label.{Label}
use Rattle.flow_labels.specs.Flow.{flows}
use Rattle.lam_asks.specs.declared.answer.Event.{Event}
use Rattle.lam_bytecode.specs.Codes.{CodeTree}
use Rattle.lam_machine_terms.specs.Worlds.{World}
use Rattle.lam_machine_terms.specs.Turns.{Moment, step, moments, replay, IsRun}
use Rattle.lam_machine_runs.proofs.RunLemmas.{joined_runs, stopped_runs}
use Rattle.lam_machine.specs.Worlds.{IsSound}
use Rattle.lam_machine.proofs.Sound.{sound_step}
use Rattle.lam_machine.specs.Turned.{IsTurn}
use Rattle.lam_machine_replay.specs.Keeping.{KeptOfSoMany, KeepsOneMore, KeepsEvent}
use Rattle.lam_machine_replay.proofs.ProductLemmas.{products_told}
use Rattle.closed_terms.specs.declared.Slot.{Slot}
use Rattle.closed_terms.specs.Schedule.{first_slot, next_slot, after, one_more, RunsTo}
use Rattle.closed_run.specs.declared.places.Place.{Place}
use Rattle.closed_run.specs.Places.{with_turns}
use Rattle.closed_run.specs.Going.{TakesOne}
use Rattle.closed_run.proofs.RunsLemmas.{IsAt, at_it, last_runs, then_runs}

-- these turns are those of the schedule, something held before each, and they leave this world and place; this is kept of
-- their moments
pub record Reached (X : Type 0) (AreKept : List Moment → X → Type 0) (b : Label) (code : CodeTree) (Going : World → Slot → ℕ → ℕ → Type 0) (start : World) (ts : List ℕ) (w : World) (p : Place) (x : X) : Type 0 where
  pub sound : IsSound code w
  pub run : IsRun code ts start
  pub world : w ≡ replay code ts start
  pub kept : AreKept (moments code ts start) x
  pub follows : RunsTo b code Going (IsAt w p.slot p.open_turns (length ts)) ts start first_slot 0 0

abbrev pub first_place : Place
first_place = record { slot = first_slot; open_turns = 0 }

-- the slot and the count after a turn
place_by : (o : Bool) (p : Place) → (let q : Place = record { slot = record { thread = p.slot.thread; used = cond o (suc p.slot.used) p.slot.used }; open_turns = cond o (suc p.open_turns) p.open_turns } in q) ≡ with_turns o p 1
place_by true p =
    let u : suc p.slot.used ≡ p.slot.used + 1 = omega arith in
    let k : suc p.open_turns ≡ p.open_turns + 1 = omega arith in
    λ i. record { slot = record { thread = p.slot.thread; used = u i }; open_turns = k i }
place_by false p = refl

module _ {X : Type 0} (AreKept : List Moment → X → Type 0) (b : Label) (code : CodeTree) (Going : World → Slot → ℕ → ℕ → Type 0) (start : World) where
  pub at_start : (x : X) → IsSound code start → AreKept [] x → Reached X AreKept b code Going start [] start first_place x
  at_start x sound nothing = record { sound = sound; run = tt; world = refl; kept = nothing; follows = record { world = refl; slot = refl; open_turns = refl; turns = refl } }

  pub as_many : (ts : List ℕ) (w : World) (p : Place) (x : X) → Reached X AreKept b code Going start ts w p x → KeptOfSoMany AreKept (length ts) x
  as_many ts w p x r = (moments code ts start, ((stopped_runs code).whole start ts).0 r.run, r.kept)

  -- one turn more
  pub one_turn : (ts : List ℕ) (w : World) (p : Place) (x y : X) → Reached X AreKept b code Going start ts w p x → Going w p.slot p.open_turns (length ts) → (next : Slot) → next_slot b code w p.slot ≡ Some next → (m : Moment) → step code w next.thread ≡ Some m → KeepsOneMore AreKept (length ts) m x y → Reached X AreKept b code Going start (ts ++ next.thread ∷ []) m.world (with_turns (flows m.event.label b) (record { slot = next; open_turns = p.open_turns }) 1) y
  one_turn ts w p x y r going next is m takes keeps =
      let t : ℕ = next.thread in
      let at : step code (replay code ts start) t ≡ Some m = subst (λ (v : World). step code v t ≡ Some m) r.world takes in
      let grown = (joined_runs code).grows start ts t m r.run at in
      let many : length (moments code ts start) ≡ length ts = ((stopped_runs code).whole start ts).0 r.run in
      let long : length (ts ++ t ∷ []) ≡ length ts + 1 = length-append ts (t ∷ []) in
      let count : suc (length ts) ≡ length (ts ++ t ∷ []) = omega (arith, long) in
      let L : World → Slot → ℕ → ℕ → Type 0 = IsAt w p.slot p.open_turns (length ts) in
      let q : Place = record { slot = after b next m; open_turns = one_more b m p.open_turns } in
      let M : World → Slot → ℕ → ℕ → Type 0 = IsAt m.world q.slot q.open_turns (length (ts ++ t ∷ [])) in
      let here : RunsTo b code Going M (t ∷ []) w p.slot p.open_turns (length ts) = (
        going,
        record { slot = next; it = m; next = is; thread = refl; takes = takes; rest = record { world = refl; slot = refl; open_turns = refl; turns = count } },
      ) in
      let more : RunsTo b code Going M (ts ++ t ∷ []) start first_slot 0 0 =
      then_runs b code Going L M (t ∷ []) (λ v s k j h. at_it (RunsTo b code Going M (t ∷ [])) w p.slot p.open_turns (length ts) v s k j here h) ts start first_slot 0 0 r.follows in
      let reached : Reached X AreKept b code Going start (ts ++ t ∷ []) m.world q y =
      record {
        sound = sound_step code w t m r.sound takes;
        run = grown.0;
        world = sym grown.2;
        kept = subst (λ (ms : List Moment). AreKept ms y) (sym grown.1) (keeps (moments code ts start) many r.kept);
        follows = more;
      } in
      subst (λ (z : Place). Reached X AreKept b code Going start (ts ++ t ∷ []) m.world z y) (place_by (flows m.event.label b) (record { slot = next; open_turns = p.open_turns })) reached

  pub one_taken : (ts us : List ℕ) (w v : World) (p q : Place) (x y : X) → Reached X AreKept b code Going start ts w p x → Going w p.slot p.open_turns (length ts) → (next : Slot) → next_slot b code w p.slot ≡ Some next → TakesOne b code AreKept (record { slot = next; open_turns = p.open_turns }) q ts us w v x y → Reached X AreKept b code Going start us v q y
  one_taken ts us w v p q x y r going next is t =
      let m : Moment = record { event = t.event; made = t.turn.made; world = v } in
      let reached = one_turn ts w p x y r going next is m t.turn.is t.keeps in
      subst (λ (zs : List ℕ). Reached X AreKept b code Going start zs v q y) (sym t.turns)
      (subst (λ (z : Place). Reached X AreKept b code Going start (ts ++ next.thread ∷ []) v z y) (sym t.place) reached)

  -- what holds at the end
  pub at_last : (M : World → Slot → ℕ → ℕ → Type 0) (ts : List ℕ) (w : World) (p : Place) (x : X) → Reached X AreKept b code Going start ts w p x → M w p.slot p.open_turns (length ts) → RunsTo b code Going M ts start first_slot 0 0
  at_last M ts w p x r last =
      last_runs b code Going (IsAt w p.slot p.open_turns (length ts)) M (λ v s k j h. at_it M w p.slot p.open_turns (length ts) v s k j last h) ts start first_slot 0 0 r.follows

-- a turn as the code takes it
pub takes_one : {X : Type 0} (AreKept : List Moment → X → Type 0) (b : Label) (code : CodeTree) (p q : Place) (ts us : List ℕ) (w after : World) (x y : X) (e : Event) → IsTurn code p.slot.thread w e after → (n : ℕ) → n ≡ length ts → KeepsEvent AreKept n e after x y → us ≡ ts ++ p.slot.thread ∷ [] → (o : Bool) → o ≡ flows e.label b → q ≡ with_turns o p 1 → TakesOne b code AreKept p q ts us w after x y
takes_one AreKept b code p q ts us w after x y e turn n many keeps list o open_is place =
    let m : Moment = record { event = e; made = turn.made; world = after } in
    record {
      event = e;
      turn = turn;
      keeps = subst (λ (k : ℕ). KeepsOneMore AreKept k m x y) many (keeps m refl refl (products_told code w p.slot.thread m turn.is));
      turns = list;
      place = place ∙ ap (λ z. with_turns z p 1) open_is;
    }
