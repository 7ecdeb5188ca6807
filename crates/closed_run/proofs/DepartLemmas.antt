-- Turns that follow the schedule, the first departure from it, and where they stop to be a run.
use Rattle.std.proofs.Common.{◌≡◌, ℕ, zero, suc, ◌+◌, ◌<◌, ◌≤◌, Bool, true, false, List, [], ◌∷◌, ◌++◌, length, take, drop, get_or, Option, Some, None, Result, Ok, Err, IfOk, OnOk, IfErr, refl, sym, ap, ◌∙◌, subst, arith, append-nil, add-one, drop-cons, length-append}
use Rattle.std.specs.Prelude.{cond, not, nat_eq, slice_get}
use Rattle.std.specs.Option.{option_map}
use Rattle.std.proofs.lemmas.Bool.Decides.{nat_tests}
use Rattle.std.proofs.lemmas.Option.{slice_get_past, slice_get_within, slice_get-get_or}
use Rattle.std.proofs.lemmas.List.{take_more, take_all, take-append-drop, length-take-le}
use Rattle.flow_labels.specs.declared.Label.{Label}
use Rattle.flow_labels.specs.Flow.{flows}
use Rattle.lam_asks.specs.declared.answer.Event.{Event}
use Rattle.lam_bytecode.specs.Codes.{CodeTree}
use Rattle.lam_machine_terms.specs.Worlds.{World}
use Rattle.lam_machine_terms.specs.Turns.{Moment, step, ready, moments, replay, IsRun}
use Rattle.lam_machine_runs.specs.Stops.{NotReady, stopped_at}
use Rattle.lam_machine_runs.proofs.RunLemmas.{joined_runs, stopped_runs}
use Rattle.lam_machine.specs.Worlds.{IsSound}
use Rattle.lam_machine.specs.Turned.{IsTurn}
use Rattle.lam_machine_replay.specs.declared.fault.RunFault.{RunFault}
use Rattle.lam_machine_replay.specs.Stops.{IsStop}
use Rattle.closed_terms.specs.declared.Departure.{Departure}
use Rattle.closed_terms.specs.declared.Slot.{Slot}
use Rattle.closed_terms.specs.Schedule.{quantum, first_slot, next_slot, after, one_more, RunsTo}
use Rattle.closed_terms.specs.Departures.{departs_unless, departure_from, departure}
use Rattle.closed_laws.proofs.NextLemmas.{next_told}
use Rattle.closed_run.specs.Places.{slot_with, count_with}
use Rattle.closed_run.specs.Departing.{Went, departed, FollowsTo, later}
use Rattle.closed_run.proofs.RunsLemmas.{IsAt, at_it}
use Rattle.closed_run.proofs.ReachLemmas.{Reached, at_start, one_turn}
use Rattle.closed_run.proofs.ReadyLemmas.{inside_label, ready_steps}
use Rattle.closed_run.proofs.EndLemmas.{next_few}

eq_true : (m n : ℕ) → m ≡ n → nat_eq m n ≡ true
eq_true m n h = go (nat_eq m n) refl
  where
    go : (x : Bool) → nat_eq m n ≡ x → nat_eq m n ≡ true
    go true e = e
    go false e = let k : m ≡ n → ⊥ = grind (arith, nat_tests, e) in absurd (k h)

eq_false : (m n : ℕ) → (m ≡ n → ⊥) → nat_eq m n ≡ false
eq_false m n h = go (nat_eq m n) refl
  where
    go : (x : Bool) → nat_eq m n ≡ x → nat_eq m n ≡ false
    go false e = e
    go true e = let k : m ≡ n = grind (arith, nat_tests, e) in absurd (h k)

-- ---- the first departure

module _ (b : Label) (code : CodeTree) where
  -- behind turns that follow the schedule
  then_departs : (Going L : World → Slot → ℕ → ℕ → Type 0) (us : List ℕ) (d : Option Departure) → ((w : World) (s : Slot) (k j : ℕ) → L w s k j → departure_from b code us w s j ≡ d) → (ts : List ℕ) (w : World) (s : Slot) (k j : ℕ) → RunsTo b code Going L ts w s k j → departure_from b code (ts ++ us) w s j ≡ d
  then_departs Going L us d f [] w s k j c = f w s k j c
  then_departs Going L us d f (t ∷ ts) w s k j c =
      let it = c.1 in
      let here : Departure = record { turn = j; thread = t } in
      let rest : Slot → Moment → Option Departure = λ next m. departure_from b code (ts ++ us) m.world (after b next m) (suc j) in
      ap (λ o. departs_unless o (step code w t) here rest) it.next
      ∙ ap (λ o. departs_unless (Some it.slot) o here rest) it.takes
      ∙ ap (λ e. cond e (rest it.slot it.it) (Some here)) (eq_true it.slot.thread t it.thread)
      ∙ then_departs Going L us d f ts it.it.world (after b it.slot it.it) (one_more b it.it k) (suc j) it.rest

  -- a thread that is not next departs
  departs_here : (t : ℕ) (us : List ℕ) (w : World) (s : Slot) (j : ℕ) → ((next : Slot) → next_slot b code w s ≡ Some next → next.thread ≡ t → ⊥) → departure_from b code (t ∷ us) w s j ≡ Some (record { turn = j; thread = t })
  departs_here t us w s j apart = go (next_slot b code w s) refl (step code w t)
    where
      here : Departure
      here = record { turn = j; thread = t }

      rest : Slot → Moment → Option Departure
      rest next m = departure_from b code us m.world (after b next m) (suc j)

      go : (x : Option Slot) → next_slot b code w s ≡ x → (y : Option Moment) → departs_unless x y (record { turn = j; thread = t }) (λ next m. departure_from b code us m.world (after b next m) (suc j)) ≡ Some (record { turn = j; thread = t })
      go None e y = refl
      go (Some next) e None = refl
      go (Some next) e (Some m) = ap (λ (z : Bool). cond z (departure_from b code us m.world (after b next m) (suc j)) (Some (record { turn = j; thread = t }))) (eq_false next.thread t (apart next e))

-- ---- so many turns follow the schedule

abbrev pub Always : World → Slot → ℕ → ℕ → Type 0
Always w s k j = Unit {0}

abbrev pub NoneKept : List Moment → Unit {0} → Type 0
NoneKept ms x = Unit {0}

pub record IsAlong (b : Label) (code : CodeTree) (start : World) (turns : List ℕ) (n : ℕ) (w : World) (s : Slot) : Type 0 where
  pub open_turns : ℕ
  pub reached : Reached (Unit {0}) NoneKept b code Always start (take n turns) w (record { slot = s; open_turns = open_turns }) tt
  pub few : s.used ≤ quantum
  pub within : n ≤ length turns

slot_after : (o : Bool) (s : Slot) → slot_with o s 1 ≡ record { thread = s.thread; used = cond o (suc s.used) s.used }
slot_after true s = let u : s.used + 1 ≡ suc s.used = omega arith in λ i. record { thread = s.thread; used = u i }
slot_after false s = refl

pub slot_is : (b : Label) (next : Slot) (m : Moment) → slot_with (flows m.event.label b) next 1 ≡ after b next m
slot_is b next m = slot_after (flows m.event.label b) next

few_after : (o : Bool) (s : Slot) → s.used ≤ quantum → (o ≡ true → s.used < quantum) → (slot_with o s 1).used ≤ quantum
few_after true s most less = let l = less refl in omega (arith, l)
few_after false s most less = most

module _ (b : Label) (code : CodeTree) (w : World) (s next : Slot) (t : ℕ) (is_next : next_slot b code w s ≡ Some next) (thread : next.thread ≡ t) where
  -- who is next has a turn
  pub next_steps : step code w t ≡ None → ⊥
  next_steps none = ready_steps code w t (ap (ready code w) (sym thread) ∙ (next_told code b).is_ready w s next is_next) none

  pub went_on : (e : Event) (end : World) → IsTurn code t w e end → (o : Bool) → o ≡ flows e.label b → (later : Slot) → later ≡ slot_with o next 1 → Went b code w s t later end
  went_on e end turn o open_is later later_is =
      let m : Moment = record { event = e; made = turn.made; world = end } in
      record {
        next = next;
        is_next = is_next;
        thread = thread;
        moment = m;
        takes = turn.is;
        slot = later_is ∙ ap (λ y. slot_with y next 1) open_is ∙ slot_is b next m;
        world = refl;
      }

module _ (b : Label) (code : CodeTree) (start : World) (turns : List ℕ) where
  pub along_start : IsSound code start → IsAlong b code start turns 0 start first_slot
  along_start sound = record { open_turns = 0; reached = at_start NoneKept b code Always start tt sound tt; few = omega arith; within = omega arith }

  module _ (n : ℕ) (w : World) (s : Slot) (at : IsAlong b code start turns n w s) where
    pub along_turn : n < length turns → (next : Slot) (end : World) → Went b code w s (get_or turns n 0) next end → IsAlong b code start turns (n + 1) end next
    along_turn less next end went =
        let t : ℕ = get_or turns n 0 in
        let m : Moment = went.moment in
        let o : Bool = flows m.event.label b in
        let takes : step code w went.next.thread ≡ Some m = subst (λ (u : ℕ). step code w u ≡ Some m) (sym went.thread) went.takes in
        let one = one_turn NoneKept b code Always start (take n turns) w (record { slot = s; open_turns = at.open_turns }) tt tt at.reached tt went.next went.is_next m takes (λ ms many before. tt) in
        let more : take (n + 1) turns ≡ take n turns ++ t ∷ [] = take_more turns n 0 less in
        let list : take n turns ++ went.next.thread ∷ [] ≡ take (n + 1) turns = ap (λ (u : ℕ). take n turns ++ u ∷ []) went.thread ∙ sym more in
        let slot : slot_with o went.next 1 ≡ next = slot_is b went.next m ∙ sym went.slot in
        let R : List ℕ → World → Slot → Type 0 = λ ts v r. Reached (Unit {0}) NoneKept b code Always start ts v (record { slot = r; open_turns = count_with o at.open_turns 1 }) tt in
        let few = next_few b code w s went.next at.few went.is_next in
        record {
          open_turns = count_with o at.open_turns 1;
          reached = subst (λ (ts : List ℕ). R ts end next) list (subst (λ (v : World). R (take n turns ++ went.next.thread ∷ []) v next) (sym went.world) (subst (λ (r : Slot). R (take n turns ++ went.next.thread ∷ []) m.world r) slot one));
          few = subst (λ (r : Slot). r.used ≤ quantum) slot (few_after o went.next few.most (λ e. few.outside (inside_label code b w went.next.thread m takes ∙ ap not e)));
          within = omega (arith, less);
        }

    abbrev follows_to : departure b code turns start ≡ departed turns n → FollowsTo b code start turns n w
    follows_to e = record { within = at.within; sound = at.reached.sound; run = at.reached.run; world = at.reached.world; departs = e }

    here : (us : List ℕ) (d : Option Departure) → departure_from b code us w s (length (take n turns)) ≡ d → departure b code (take n turns ++ us) start ≡ d
    here us d e =
        let k : ℕ = at.open_turns in
        let j : ℕ = length (take n turns) in
        then_departs b code Always (IsAt w s k j) us d (λ v r i h there. at_it (λ v r i h. departure_from b code us v r h ≡ d) w s k j v r i h e there) (take n turns) start first_slot 0 0 at.reached.follows

    pub all_along : length turns ≤ n → FollowsTo b code start turns n w
    all_along end =
        let all : take n turns ++ [] ≡ turns = append-nil (take n turns) ∙ take_all n turns end in
        let none : departure b code turns start ≡ None = subst (λ (ts : List ℕ). departure b code ts start ≡ None) all (here [] None refl) in
        follows_to (none ∙ sym (ap (λ o. option_map (λ (t : ℕ). let d : Departure = record { turn = n; thread = t } in d) o) (slice_get_past turns n end)))

    pub leaves_here : n < length turns → ((next : Slot) → next_slot b code w s ≡ Some next → next.thread ≡ get_or turns n 0 → ⊥) → FollowsTo b code start turns n w
    leaves_here less apart =
        let t : ℕ = get_or turns n 0 in
        let rest : List ℕ = drop (n + 1) turns in
        let all : take n turns ++ t ∷ rest ≡ turns = sym (sym (take-append-drop n turns) ∙ ap (λ (ts : List ℕ). take n turns ++ ts) (drop-cons turns n 0 less ∙ ap (λ k. t ∷ drop k turns) (sym (add-one n)))) in
        let many : length (take n turns) ≡ n = length-take-le n turns at.within in
        let it : departure_from b code (t ∷ rest) w s (length (take n turns)) ≡ Some (record { turn = n; thread = t }) =
        departs_here b code t rest w s (length (take n turns)) apart ∙ ap (λ (k : ℕ). Some (let d : Departure = record { turn = k; thread = t } in d)) many in
        let some : departure b code turns start ≡ Some (record { turn = n; thread = t }) = subst (λ (ts : List ℕ). departure b code ts start ≡ Some (record { turn = n; thread = t })) all (here (t ∷ rest) (Some (record { turn = n; thread = t })) it) in
        follows_to (some ∙ sym (ap (λ o. option_map (λ (u : ℕ). let d : Departure = record { turn = n; thread = u } in d) o) (slice_get-get_or turns n 0 less)))

-- nothing changed since
pub along_same : (b : Label) (code : CodeTree) (start : World) (turns : List ℕ) (n : ℕ) (w v : World) → v ≡ w → FollowsTo b code start turns n w → FollowsTo b code start turns n v
along_same b code start turns n w v e h = subst (λ (u : World). FollowsTo b code start turns n u) (sym e) h

-- ---- where turns stop to be a run

get_behind : (xs ys : List ℕ) (n k : ℕ) → n ≡ length xs + k → slice_get (xs ++ ys) n ≡ slice_get ys k
get_behind [] ys n k e = let same : n ≡ k = omega (arith, e) in ap (slice_get ys) same
get_behind (x ∷ xs) ys zero k e = absurd (omega (arith, e))
get_behind (x ∷ xs) ys (suc n) k e = get_behind xs ys n k (omega (arith, e))

stop_of : ℕ → ℕ → NotReady
stop_of k t = record { turn = k; thread = t }

shifted : (n k : ℕ) (o : Option ℕ) → option_map (λ (t : ℕ). let s : NotReady = record { turn = n + k; thread = t } in s) o ≡ later n (option_map (λ (t : ℕ). let s : NotReady = record { turn = k; thread = t } in s) o)
shifted n k None = refl
shifted n k (Some t) = refl

pub stops_later : (code : CodeTree) (start : World) (turns : List ℕ) (n : ℕ) (w : World) → n ≤ length turns → IsRun code (take n turns) start → w ≡ replay code (take n turns) start → stopped_at code turns start ≡ later n (stopped_at code (drop n turns) w)
stops_later code start turns n w within run left =
    let front : List ℕ = take n turns in
    let back : List ℕ = drop n turns in
    let k : ℕ = length (moments code back w) in
    let all : front ++ back ≡ turns = take-append-drop n turns in
    let long : length front ≡ n = length-take-le n turns within in
    let many : length (moments code front start) ≡ length front = ((stopped_runs code).whole start front).0 run in
    let joined : moments code (front ++ back) start ≡ moments code front start ++ moments code back w =
    (joined_runs code).moments_join start front back run ∙ ap (λ (v : World). moments code front start ++ moments code back v) (sym left) in
    let sum : length (moments code front start ++ moments code back w) ≡ length (moments code front start) + k = length-append (moments code front start) (moments code back w) in
    let count : length (moments code turns start) ≡ n + k =
    ap (λ (ts : List ℕ). length (moments code ts start)) (sym all) ∙ ap (λ (ms : List Moment). length ms) joined ∙ sum ∙ ap (λ (i : ℕ). i + k) (many ∙ long) in
    let place : n + k ≡ length front + k = ap (λ (i : ℕ). i + k) (sym long) in
    let there : slice_get turns (n + k) ≡ slice_get back k = ap (λ (ts : List ℕ). slice_get ts (n + k)) (sym all) ∙ get_behind front back (n + k) k place in
    ap (λ (i : ℕ). option_map (λ (t : ℕ). let s : NotReady = record { turn = i; thread = t } in s) (slice_get turns i)) count
    ∙ ap (λ o. option_map (λ (t : ℕ). let s : NotReady = record { turn = n + k; thread = t } in s) o) there
    ∙ shifted n k (slice_get back k)

turn_in : Option NotReady → ℕ
turn_in None = 0
turn_in (Some s) = s.turn

pub stop_within : (code : CodeTree) (us : List ℕ) (w : World) (n t : ℕ) → stopped_at code us w ≡ Some (record { turn = n; thread = t }) → n < length us
unfolding turn_in
stop_within code us w n t e = go (slice_get us (length (moments code us w))) refl e
  where
    go : (x : Option ℕ) → slice_get us (length (moments code us w)) ≡ x → option_map (λ (u : ℕ). let s : NotReady = record { turn = length (moments code us w); thread = u } in s) x ≡ Some (record { turn = n; thread = t }) → n < length us
    go None f h = absurd cc
    go (Some u) f h =
        let k : length (moments code us w) ≡ n = ap turn_in h in
        let l : length (moments code us w) < length us = slice_get_within us (length (moments code us w)) u f in
        subst (λ (i : ℕ). i < length us) k l

-- ---- a front that follows the schedule, and the rest

on_ok : {A E P Q : Type 0} (r : Result A E) → (P → Q) → OnOk r P → OnOk r Q
on_ok (Ok x) f h = f h
on_ok (Err e) f h = tt

module _ (b : Label) (code : CodeTree) (start : World) (turns : List ℕ) (n : ℕ) (w : World) (front : FollowsTo b code start turns n w) where
  stops_there : stopped_at code turns start ≡ later n (stopped_at code (drop n turns) w)
  stops_there = stops_later code start turns n w front.within front.run front.world

  pub rest_ok : {E : Type 0} (r : Result (Option Departure) E) → IfOk r (λ d. d ≡ departed turns n) → IfOk r (λ d. d ≡ departure b code turns start)
  rest_ok r h = subst (λ (z : Option Departure). IfOk r (λ d. d ≡ z)) (sym front.departs) h

  pub rest_run : {A E : Type 0} (r : Result A E) → OnOk r (stopped_at code (drop n turns) w ≡ None) → OnOk r (stopped_at code turns start ≡ None)
  rest_run r h = on_ok r (λ e. stops_there ∙ ap (later n) e) h

  pub rest_stops : {A : Type 0} (r : Result A RunFault) → IfErr r (λ f. IsStop f (later n (stopped_at code (drop n turns) w))) → IfErr r (λ f. IsStop f (stopped_at code turns start))
  rest_stops r h = subst (λ (z : Option NotReady). IfErr r (λ f. IsStop f z)) (sym stops_there) h
