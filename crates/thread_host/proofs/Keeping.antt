-- What workers share, after one turn more.
use Rattle.std.proofs.Common.{◌≡◌, ℕ, ◌+◌, ◌<◌, ◌≤◌, Bool, true, false, List, [], ◌∷◌, ◌++◌, length, Option, Some, None, refl, sym, ap, subst, ◌∙◌, arith, length-append}
use Rattle.lam_asks.specs.declared.answer.Event.{Event}
use Rattle.lam_bytecode.specs.Codes.{CodeTree}
use Rattle.lam_machine_terms.specs.Worlds.{World}
use Rattle.lam_machine_terms.specs.Turns.{Moment, step, moments, replay}
use Rattle.lam_machine_runs.proofs.RunLemmas.{joined_runs, stopped_runs}
use Rattle.lam_machine_laws.specs.Turned.{IsTurn}
use Rattle.lam_machine_replay.specs.Privately.{private_event}
use Rattle.lam_machine_replay.specs.Keeping.{KeptOfSoMany, KeepsOneMore, LeavesPrivate}
use Rattle.lam_machine_replay.proofs.ProductLemmas.{products_told}
use Rattle.thread_host_run.specs.Courses.{Progress, IsCourse, one_more, TookTurn}
use Rattle.thread_host_run.proofs.CourseLemmas.{took_turn, course_grows}
use Rattle.thread_core_stretches.specs.declared.stretch.Stretch.{Stretch}
use Rattle.thread_core_stretches.specs.Stretches.{StretchStands}
use Rattle.thread_host_run.specs.Stretched.{WentOn, checked_in}
use Rattle.thread_host_run.proofs.StretchLemmas.{stretch_keeps}
use Rattle.thread_host.specs.Stretching.{StretchKeepsTo}
use Rattle.thread_host.specs.Sharing.{Unless, IsShared, KeepsTaken, Agree}

more_within : (ts : List ℕ) (t n : ℕ) → length ts < n → length (ts ++ t ∷ []) ≤ n
more_within ts t n h = let e : length (ts ++ t ∷ []) ≡ length ts + 1 = length-append ts (t ∷ []) in omega (arith, e, h)

below : (n budget : ℕ) → n < budget → budget ≤ 1000000 → n < 1000000
below n budget h k = omega (arith, h, k)

-- ---- two that say the same of what is kept

module _ {X : Type 0} (A B : List Moment → X → Type 0) (agree : Agree A B) (code : CodeTree) (start : World) (budget : ℕ) (p : Progress) (kept : X) where
  as_first_unless : (lost : Bool) (ms : List Moment) → Unless lost (B ms kept) → Unless lost (A ms kept)
  as_first_unless true ms h = tt
  as_first_unless false ms h = (agree ms kept).1 h

  as_second_unless : (lost : Bool) (ms : List Moment) → Unless lost (A ms kept) → Unless lost (B ms kept)
  as_second_unless true ms h = tt
  as_second_unless false ms h = (agree ms kept).0 h

  pub as_first : (lost : Bool) → IsShared B code start budget p lost kept → IsShared A code start budget p lost kept
  as_first lost h = record { course = h.course; within = h.within; keeps = as_first_unless lost (moments code p.turns start) h.keeps }

  pub as_second : (lost : Bool) → IsShared A code start budget p lost kept → IsShared B code start budget p lost kept
  as_second lost h = record { course = h.course; within = h.within; keeps = as_second_unless lost (moments code p.turns start) h.keeps }

-- what is shared by an origin, as whoever keeps something says it, and back
module _ {X : Type 0} (A B : List Moment → X → Type 0) (agree : Agree A B) (code own : CodeTree) (of_code : code ≡ own) (start : World) (budget most : ℕ) (of_budget : budget ≡ most) (p : Progress) (kept : X) where
  pub for_who : (lost : Bool) → lost ≡ false → IsShared B own start most p lost kept → IsShared A code start budget p false kept
  for_who lost still h =
      subst (λ (b : Bool). IsShared A code start budget p b kept) still
      (subst (λ (c : CodeTree). IsShared A c start budget p lost kept) (sym of_code)
      (subst (λ (n : ℕ). IsShared A own start n p lost kept) (sym of_budget) (as_first A B agree own start most p kept lost h)))

  pub for_origin : (lost : Bool) → IsShared A code start budget p lost kept → IsShared B own start most p lost kept
  for_origin lost h =
      subst (λ (c : CodeTree). IsShared B c start most p lost kept) of_code
      (subst (λ (n : ℕ). IsShared B code start n p lost kept) of_budget (as_second A B agree code start budget p kept lost h))

-- ---- a turn, and what is kept of it

module _ {X : Type 0} (AreKept : List Moment → X → Type 0) (code : CodeTree) (start : World) (budget : ℕ) (p : Progress) (before : X) (shared : IsShared AreKept code start budget p false before) where
  -- there are as many moments as turns
  as_many : length (moments code p.turns start) ≡ length p.turns
  as_many = ((stopped_runs code).whole start p.turns).0 shared.course.run

  pub kept_so_far : (n : ℕ) → n ≡ length p.turns → KeptOfSoMany AreKept n before
  kept_so_far n e = (moments code p.turns start, as_many ∙ sym e, shared.keeps)

  -- of a private turn nothing is kept
  kept_by : (n : ℕ) (t : ℕ) (o : Option Event) (after : World) (kept : X) → TookTurn code t p.world o after → KeepsTaken AreKept n o after before kept →
      (e : Event) × (turn : IsTurn code t p.world e after) × KeepsOneMore AreKept n (record { event = e; made = turn.made; world = after }) before kept
  kept_by n t None after kept turn keeps =
      let m : Moment = record { event = private_event p.world t; made = turn.made; world = after } in
      (private_event p.world t, turn, λ ms many old. subst (AreKept (ms ++ m ∷ [])) (sym keeps.1) (keeps.0 ms m before refl (products_told code p.world t m turn.is) old))
  kept_by n t (Some e) after kept turn keeps =
      let m : Moment = record { event = e; made = turn.made; world = after } in
      (e, turn, keeps m refl refl (products_told code p.world t m turn.is))

  module _ (n : ℕ) (t : ℕ) (o : Option Event) (after : World) (kept : X) (many : n ≡ length p.turns) (turn : TookTurn code t p.world o after) where
    keeps_more : KeepsTaken AreKept n o after before kept → AreKept (moments code (p.turns ++ t ∷ []) start) kept
    keeps_more keeps =
        let it = kept_by n t o after kept turn keeps in
        let m : Moment = record { event = it.0; made = it.1.made; world = after } in
        let at : step code (replay code p.turns start) t ≡ Some m = subst (λ (w : World). step code w t ≡ Some m) shared.course.world it.1.is in
        let grown = (joined_runs code).grows start p.turns t m shared.course.run at in
        subst (λ (ms : List Moment). AreKept ms kept) (sym grown.1) (it.2 (moments code p.turns start) (as_many ∙ sym many) shared.keeps)

    keeps_unless : (lost : Bool) → Unless lost (KeepsTaken AreKept n o after before kept) → Unless lost (AreKept (moments code (p.turns ++ t ∷ []) start) kept)
    keeps_unless true h = tt
    keeps_unless false h = keeps_more h

    pub shared_more : length p.turns < budget → budget ≤ 1000000 → (lost : Bool) → Unless lost (KeepsTaken AreKept n o after before kept) → IsShared AreKept code start budget (one_more p t after) lost kept
    shared_more left few lost keeps =
        let it = took_turn code t p.world o after turn in
        record {
          course = course_grows code start p t it.0 after shared.course (below (length p.turns) budget left few) it.1;
          within = more_within p.turns t budget left;
          keeps = keeps_unless lost keeps;
        }

-- ---- a stretch of private turns, of which nothing is kept

pub shared_stretch : {X : Type 0} (AreKept : List Moment → X → Type 0) → LeavesPrivate AreKept → (code : CodeTree) (start : World) (budget : ℕ) (p : Progress) (kept : X) (s : Stretch) → StretchStands code s → StretchKeepsTo budget p s → budget ≤ 1000000
    → IsShared AreKept code start budget p false kept → IsShared AreKept code start budget (checked_in p s) false kept
shared_stretch AreKept leaves code start budget p kept s stands keeps few shared =
    stretch_keeps code s stands p keeps.2.1 budget (λ q. IsShared AreKept code start budget q false kept)
    (λ q after left turn h. shared_more AreKept code start budget q kept h (length q.turns) s.thread None after kept refl turn left few false (leaves, refl)) keeps.1 shared

-- ---- private turns in place, of which nothing is kept

pub within_budget : (p : Progress) (n most budget : ℕ) → n ≤ most → length p.turns + most ≤ budget → length p.turns + n ≤ budget
within_budget p n most budget h k = omega (arith, h, k)

pub shared_along : {X : Type 0} (AreKept : List Moment → X → Type 0) → LeavesPrivate AreKept → (code : CodeTree) (start : World) (budget : ℕ) (p : Progress) (kept : X) (t n : ℕ) (q : Progress) → WentOn code t n p q → length p.turns + n ≤ budget → budget ≤ 1000000
    → IsShared AreKept code start budget p false kept → IsShared AreKept code start budget q false kept
shared_along AreKept leaves code start budget p kept t n q went within few shared =
    let s = went.stretch in
    let room = subst (λ (k : ℕ). length p.turns + k ≤ budget) (sym went.count) within in
    subst (λ (x : Progress). IsShared AreKept code start budget x false kept) (sym went.after)
    (stretch_keeps code s went.stands p went.there budget (λ x. IsShared AreKept code start budget x false kept)
    (λ x after left turn h. shared_more AreKept code start budget x kept h (length x.turns) s.thread None after kept refl turn left few false (leaves, refl)) room shared)

-- no private turn at all changes nothing
no_room : (p : Progress) (n : ℕ) → n ≡ 0 → length p.turns + n ≤ length p.turns
no_room p n none = omega (arith, none)

same_length : (p q : Progress) → length q.turns < length p.turns → q ≡ p → ⊥
same_length p q less same = let e : length q.turns ≡ length p.turns = ap (λ (x : Progress). length x.turns) same in omega (arith, less, e)

pub went_nowhere : (code : CodeTree) (t n : ℕ) (p q : Progress) → n ≡ 0 → WentOn code t n p q → q ≡ p
went_nowhere code t n p q none went =
    let s = went.stretch in
    went.after ∙ stretch_keeps code s went.stands p went.there (length p.turns) (λ x. x ≡ p)
    (λ x after left turn same. absurd (same_length p x left same)) (no_room p s.count (went.count ∙ none)) refl
