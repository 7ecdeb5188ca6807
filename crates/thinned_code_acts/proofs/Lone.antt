-- A thread that runs alone, turn by turn, in a code and in its thinned code.
use Rattle.std.proofs.Common.{◌≡◌, ◌⊎◌, inl, inr, ℕ, zero, suc, ◌+◌, ◌<◌, ◌≤◌, List, [], ◌∷◌, ◌++◌, map, Bool, true, false, Option, Some, None, length, slice_get, refl, sym, ap, ◌∙◌, subst, arith, length-append}
use Rattle.std.specs.List.{AllByRecursion}
use Rattle.std.specs.Prelude.{unwrap_or, if◌then◌else◌}
use Rattle.lam_asks.specs.declared.fault.Fault.{Fault}
use Rattle.lam_asks.specs.declared.answer.Outcome.{Outcome}
use Rattle.lam_asks.specs.declared.answer.Answer.{Answer}
use Rattle.lam_asks.specs.declared.ask.Ask.{Ask}
use Rattle.lam_bytecode.specs.Codes.{CodeTree}
use Rattle.lam_bytecode.specs.declared.unit.CodeUnit.{CodeUnit}
use Rattle.lam_bytecode.specs.declared.op.Op.{Op}
use Rattle.thread_steps.specs.Threads.{Inside, Context, Thread}
use Rattle.thread_steps.specs.Next.{Next, goes, asks, stuck, past, ops_in, ops_of, with_inside, next_of, stands, standing_in}
use Rattle.guarded_code.specs.Rounds.{Table, Found, Holds, OnFound}
use Rattle.guarded_code.specs.declared.known.Access.{Access}
use Rattle.guarded_code.specs.declared.known.Access.TheVariants.{Reading, Writing}
use Rattle.guarded_code.specs.Descriptions.{Description}
use Rattle.guarded_code.specs.Changes.{descriptions}
use Rattle.guarded_code.specs.Breaks.{IsGuarded}
use Rattle.guarded_code.specs.Says.{Describes}
use Rattle.guarded_code.proofs.Tables.{none_some, get_within}
use Rattle.guarded_code.proofs.Breaking.{guarded_means}
use Rattle.guarded_code.proofs.RoundFacts.{meets_rules}
use Rattle.thinned_code.specs.Thinned.{moved, moved_op, thinned}
use Rattle.thinned_code.proofs.Sifting.{next_dropped}
use Rattle.thinned_code.proofs.Ops.{barrier, by_moved}
use Rattle.thinned_code.proofs.Thinned.{thin_is}
use Rattle.thinned_code_acts.specs.Moved.{staying_at, moved_frame, moved_inside, moved_phase, outer_unit, moved_context, moved_thread, moved_next, StaysBy, Stays}
use Rattle.thinned_code_acts.specs.Matches.{NextMatches, AnswersMatch, IsKept, PlaceIsKept}
use Rattle.thinned_code_acts.proofs.Places.{outer_same, staying_is, staying_count, staying_op, thin_unit_is}
use Rattle.thinned_code_acts.proofs.Answers.{inside_moved}
use Rattle.guarded_code_threads.specs.Described.{found_at, known_in, description_at, FrameAgrees, ActingAgrees, IsDescribedContext, IsDescribed}
use Rattle.lam_meaning_laws.specs.Lone.{Lone, runs, waits, is_barrier, op_work, work_in, work_of, asked, done, turn_of, turn, asks_in, work_done, NotStuck}
use Rattle.thinned_code_acts.proofs.Passing.{left_out, passes_on}

abbrev pub moved_lone : CodeTree → Lone → Lone
moved_lone code (runs th xs made w) = runs (moved_thread code th) xs made w
moved_lone code (waits made w) = waits made w

pub asks_moved : (code : CodeTree) (s : Lone) → asks_in (moved_lone code s) ≡ asks_in s
asks_moved code (runs th xs made w) = refl
asks_moved code (waits made w) = refl

pub work_moved : (code : CodeTree) (s : Lone) → work_done (moved_lone code s) ≡ work_done s
work_moved code (runs th xs made w) = refl
work_moved code (waits made w) = refl

-- ---- where it stands

abbrev AllStay : CodeTree → List Context → Type 0
AllStay code [] = Unit {0}
AllStay code (c ∷ rest) = Stays code c

-- at an operation that stays, or at a fault, or ended
abbrev pub StaysAlone : CodeTree → Lone → Type 0
StaysAlone code (runs th xs made w) = AllStay code th.contexts
StaysAlone code (waits made w) = Unit {0}

pub record Drops (code : CodeTree) (c : Context) : Type 0 where
  pub fault : c.inside.fault ≡ None
  pub at : slice_get (staying_at code c.inside.frame.unit) c.inside.frame.at ≡ Some false

abbrev AllDrop : CodeTree → List Context → Type 0
AllDrop code [] = ⊥
AllDrop code (c ∷ rest) = Drops code c

-- at a barrier that was left out
abbrev pub DropsAlone : CodeTree → Lone → Type 0
DropsAlone code (runs th xs made w) = AllDrop code th.contexts
DropsAlone code (waits made w) = ⊥

-- it agrees with what is known
abbrev pub IsDescribedAlone : CodeTree → Lone → Type 0
IsDescribedAlone code (runs th xs made w) = IsDescribed code th
IsDescribedAlone code (waits made w) = Unit {0}

-- ---- what is known stands at an operation
holds_on : (P : Table Description → Type 0) (o : Found Description) (t : Table Description) → o ≡ Holds t → OnFound (Unit {0}) o P → P t
holds_on P o t e h = subst (λ x. OnFound (Unit {0}) x P) e h

known_inside : (code : CodeTree) → IsGuarded code → (n at : ℕ) (d : Description) → description_at code n at ≡ Some d → at < length (staying_at code n)
unfolding description_at
known_inside code guarded n at d e = by (slice_get code.units n) refl
  where
    by : (o : Option CodeUnit) → slice_get code.units n ≡ o → at < length (staying_at code n)
    by None f = none_some (sym (ap (known_in code at) f) ∙ e)
    by (Some u) f =
        let g = (guarded_means code).0 guarded n u f in
        let h = holds_on (λ t. Describes code u t) (descriptions code u) g.table g.found (meets_rules code u) in
        let within = inside g.table at (sym (ap (found_at at) g.found) ∙ sym (ap (known_in code at) f) ∙ e) in
        let long = ap length (staying_is code n u f) in
        omega (arith, within, h.size, staying_count code u, long)
      where
        inside : (t : Table Description) (i : ℕ) → unwrap_or (slice_get t i) None ≡ Some d → i < length t
        inside [] i k = none_some k
        inside (o ∷ t) zero k = omega arith
        inside (o ∷ t) (suc i) k = let ih = inside t i k in omega (arith, ih)

module _ (code : CodeTree) (guarded : IsGuarded code) where
  pub context_stands : (c : Context) → IsDescribedContext code c → Stays code c ⊎ Drops code c
  context_stands c h = by c.inside.fault refl
    where
      by : (o : Option Fault) → c.inside.fault ≡ o → Stays code c ⊎ Drops code c
      by (Some x) e = inl (subst (StaysBy code c.inside.frame) (sym e) tt)
      by None e =
          let f = c.inside.frame in
          let agrees = subst (λ o. ActingAgrees code c.label o f) e h.acting in
          let within = known_inside code guarded f.unit f.at agrees.known agrees.it in
          let found = get_within (staying_at code f.unit) f.at within in
          test found.0 found.1
        where
          test : (b : Bool) → slice_get (staying_at code c.inside.frame.unit) c.inside.frame.at ≡ Some b → Stays code c ⊎ Drops code c
          test true g = inl (subst (StaysBy code c.inside.frame) (sym e) g)
          test false g = inr (record { fault = e; at = g })

  contexts_stand : (cs : List Context) → AllByRecursion (IsDescribedContext code) cs → AllStay code cs ⊎ AllDrop code cs
  contexts_stand [] h = inl tt
  contexts_stand (c ∷ rest) h = context_stands c h.0

  pub stands_alone : (s : Lone) → IsDescribedAlone code s → StaysAlone code s ⊎ DropsAlone code s
  stands_alone (runs th xs made w) h = contexts_stand th.contexts h
  stands_alone (waits made w) h = inl tt

  -- ---- a turn at a barrier that was left out

  barrier_op : (access : Access) (depth : ℕ) → is_barrier (barrier access depth) ≡ true
  barrier_op Reading depth = refl
  barrier_op Writing depth = refl

  dropped_work : (c : Context) → Drops code c → work_of code c ≡ 0
  dropped_work c d =
      let f = c.inside.frame in
      let l = left_out code guarded f.unit f.at d.at in
      ap (λ o. work_in o (slice_get (ops_of code f.unit) f.at)) d.fault
      ∙ ap op_work (ap (λ (o : Option CodeUnit). slice_get (ops_in o) f.at) l.unit_is ∙ l.again.op_at)
      ∙ ap (λ (b : Bool). if b then 0 else 1) (barrier_op l.again.access l.again.depth)

  -- the same context one address on
  abbrev pub passed : Context → Context
  passed c = with_inside c (past c.inside c.inside.frame.stack)

  frame_agrees : (c : Context) → IsDescribedContext code c → c.inside.fault ≡ None → FrameAgrees code c.label c.inside.frame
  frame_agrees c h e = subst (λ o. ActingAgrees code c.label o c.inside.frame) e h.acting

  pub dropped_next : (c : Context) → IsDescribedContext code c → Drops code c → next_of code c ≡ goes (past c.inside c.inside.frame.stack)
  dropped_next c h d = passes_on code guarded c d.fault d.at (frame_agrees c h d.fault)

  abbrev by_parts : Context → ℕ → ℕ → Option Fault → Context
  by_parts c outer at fault =
      record {
        label = c.label;
        caps = c.caps;
        depth = c.depth;
        phase = moved_phase (staying_at code outer) c.phase;
        held = c.held;
        inside = record { frame = record { unit = c.inside.frame.unit; at = at; locals = c.inside.frame.locals; stack = c.inside.frame.stack }; callers = map (moved_frame code) c.inside.callers; fault = fault };
      }

  -- it stands where it stood
  passed_moved : (c : Context) → Drops code c → moved_context code (passed c) ≡ moved_context code c
  passed_moved c d =
      let f = c.inside.frame in
      let ks = staying_at code f.unit in
      ap (λ n. by_parts c n (moved ks (f.at + 1)) None) (outer_same (past c.inside f.stack).frame f c.inside.callers refl)
      ∙ ap (λ n. by_parts c (outer_unit c.inside) n None) (next_dropped ks f.at d.at)
      ∙ ap (by_parts c (outer_unit c.inside) (moved ks f.at)) (sym d.fault)

  abbrev thread : List Context → Option Outcome → Thread
  thread cs res = record { contexts = cs; result = res }

  abbrev with_first : Option Outcome → List Context → List Answer → List Ask → ℕ → Context → Lone
  with_first res rest xs made w c = runs (record { contexts = c ∷ map (moved_context code) rest; result = res }) xs made w

  dropped_by : (cs : List Context) (res : Option Outcome) (xs : List Answer) (made : List Ask) (w : ℕ) → AllByRecursion (IsDescribedContext code) cs → AllDrop code cs → moved_lone code (turn_of code (thread cs res) cs xs made w) ≡ moved_lone code (runs (thread cs res) xs made w)
  dropped_by [] res xs made w h d = absurd d
  dropped_by (c ∷ rest) res xs made w h d =
      let none = dropped_work c d in
      let same : w + work_of code c ≡ w = omega (arith, none) in
      ap (λ nx. moved_lone code (done code (thread (c ∷ rest) res) c rest xs made w (w + work_of code c) nx)) (dropped_next c h.0 d)
      ∙ ap (λ n. with_first res rest xs made n (moved_context code (passed c))) same
      ∙ ap (with_first res rest xs made w) (passed_moved c d)

  -- the thread itself, after such a turn
  pub dropped_state : (c : Context) (rest : List Context) (res : Option Outcome) (xs : List Answer) (made : List Ask) (w : ℕ) → IsDescribedContext code c → Drops code c → turn code (runs (thread (c ∷ rest) res) xs made w) ≡ runs (thread (passed c ∷ rest) res) xs made w
  dropped_state c rest res xs made w h d =
      let none = dropped_work c d in
      let same : w + work_of code c ≡ w = omega (arith, none) in
      ap (done code (thread (c ∷ rest) res) c rest xs made w (w + work_of code c)) (dropped_next c h d)
      ∙ ap (runs (thread (passed c ∷ rest) res) xs made) same

  pub dropped_turn : (s : Lone) → IsDescribedAlone code s → DropsAlone code s → moved_lone code (turn code s) ≡ moved_lone code s
  dropped_turn (runs th xs made w) h d = dropped_by th.contexts th.result xs made w h d
  dropped_turn (waits made w) h d = absurd d

  -- ---- a turn at an operation that stays

  barrier_moved : (ks : List Bool) (op : Op) → is_barrier (moved_op ks op) ≡ is_barrier op
  barrier_moved ks op = by_moved ks (λ o p. is_barrier p ≡ is_barrier o) (λ to. refl) (λ to. refl) (λ o. refl) op

  op_there : (c : Context) → slice_get (staying_at code c.inside.frame.unit) c.inside.frame.at ≡ Some true → op_work (slice_get (ops_of (thinned code) c.inside.frame.unit) (moved (staying_at code c.inside.frame.unit) c.inside.frame.at)) ≡ op_work (slice_get (ops_of code c.inside.frame.unit) c.inside.frame.at)
  op_there c stays =
      let f = c.inside.frame in
      let ks = staying_at code f.unit in
      let h = staying_op code f.unit f.at stays in
      ap (λ (t : CodeTree). op_work (slice_get (ops_of t f.unit) (moved ks f.at))) (thin_is code guarded)
      ∙ ap op_work (ap (λ (o : Option CodeUnit). slice_get (ops_in o) (moved ks f.at)) (thin_unit_is code f.unit h.unit h.unit_is) ∙ h.thin_op)
      ∙ ap (λ (b : Bool). if b then 0 else 1) (barrier_moved ks h.op)
      ∙ sym (ap op_work (ap (λ (o : Option CodeUnit). slice_get (ops_in o) f.at) h.unit_is ∙ h.op_is))

  work_by : (c : Context) (o : Option Fault) → StaysBy code c.inside.frame o → work_in o (slice_get (ops_of (thinned code) c.inside.frame.unit) (moved (staying_at code c.inside.frame.unit) c.inside.frame.at)) ≡ work_in o (slice_get (ops_of code c.inside.frame.unit) c.inside.frame.at)
  work_by c (Some x) stays = refl
  work_by c None stays = op_there c stays

  kept_work : (c : Context) → Stays code c → work_of (thinned code) (moved_context code c) ≡ work_of code c
  kept_work c stays = work_by c c.inside.fault stays

  module _ (next : NextMatches code) (answers : AnswersMatch code) (place : PlaceIsKept code) where
    abbrev moved_all : List Context → List Context
    moved_all cs = map (moved_context code) cs

    asked_moved : (cs : List Context) (res : Option Outcome) (c : Context) (rest : List Context) (i : Inside) (a : Ask) (xs : List Answer) (made : List Ask) (w : ℕ) → outer_unit i ≡ outer_unit c.inside → asked (thinned code) (moved_thread code (thread cs res)) (moved_context code c) (moved_all rest) (moved_inside code i) a xs made w ≡ moved_lone code (asked code (thread cs res) c rest i a xs made w)
    asked_moved cs res c rest i a [] made w e = refl
    asked_moved cs res c rest i a (x ∷ xs) made w e = ap (λ th. runs th xs (made ++ a ∷ []) w) (answers guarded (thread cs res) c rest i a x e)

    next_done : (cs : List Context) (res : Option Outcome) (c : Context) (rest : List Context) (xs : List Answer) (made : List Ask) (old w : ℕ) (nx : Next) → IsKept c nx → done (thinned code) (moved_thread code (thread cs res)) (moved_context code c) (moved_all rest) xs made old w (moved_next code nx) ≡ moved_lone code (done code (thread cs res) c rest xs made old w nx)
    next_done cs res c rest xs made old w (goes i) e = ap (with_first res rest xs made w) (inside_moved code c i e)
    next_done cs res c rest xs made old w (asks a after) e = asked_moved cs res c rest after a xs made w e
    next_done cs res c rest xs made old w stuck e = refl

    kept_by : (cs : List Context) (res : Option Outcome) (xs : List Answer) (made : List Ask) (w : ℕ) → AllStay code cs → turn_of (thinned code) (moved_thread code (thread cs res)) (moved_all cs) xs made w ≡ moved_lone code (turn_of code (thread cs res) cs xs made w)
    kept_by [] res xs made w stays = refl
    kept_by (c ∷ rest) res xs made w stays =
        ap (λ n. done (thinned code) (moved_thread code (thread (c ∷ rest) res)) (moved_context code c) (moved_all rest) xs made w (w + n) (next_of (thinned code) (moved_context code c))) (kept_work c stays)
        ∙ ap (done (thinned code) (moved_thread code (thread (c ∷ rest) res)) (moved_context code c) (moved_all rest) xs made w (w + work_of code c)) (next guarded c stays)
        ∙ next_done (c ∷ rest) res c rest xs made w (w + work_of code c) (next_of code c) (place c)

    pub kept_turn : (s : Lone) → StaysAlone code s → turn (thinned code) (moved_lone code s) ≡ moved_lone code (turn code s)
    kept_turn (runs th xs made w) stays = kept_by th.contexts th.result xs made w stays
    kept_turn (waits made w) stays = refl

    -- it is stuck there where it is stuck here
    stands_moved : (nx : Next) → stands (moved_next code nx) ≡ stands nx
    stands_moved (goes i) = refl
    stands_moved nx = refl

    standing_moved : (cs : List Context) → AllStay code cs → standing_in (thinned code) (moved_all cs) ≡ standing_in code cs
    standing_moved [] stays = refl
    standing_moved (c ∷ rest) stays = ap stands (next guarded c stays) ∙ stands_moved (next_of code c)

    pub fine_moved : (s : Lone) → StaysAlone code s → NotStuck code s → NotStuck (thinned code) (moved_lone code s)
    fine_moved (runs th xs made w) stays h = λ e. h (sym (standing_moved th.contexts stays) ∙ e)
    fine_moved (waits made w) stays h = tt

-- ---- one turn makes one ask at most
done_one : (code : CodeTree) (th : Thread) (c : Context) (rest : List Context) (xs : List Answer) (made : List Ask) (old w : ℕ) (nx : Next) → length (asks_in (done code th c rest xs made old w nx)) ≤ length made + 1
done_one code th c rest xs made old w (goes i) = omega arith
done_one code th c rest [] made old w (asks a after) = omega (arith, length-append made (a ∷ []))
done_one code th c rest (x ∷ xs) made old w (asks a after) = omega (arith, length-append made (a ∷ []))
done_one code th c rest xs made old w stuck = omega arith

turn_one : (code : CodeTree) (th : Thread) (cs : List Context) (xs : List Answer) (made : List Ask) (w : ℕ) → length (asks_in (turn_of code th cs xs made w)) ≤ length made + 1
turn_one code th [] xs made w = omega arith
turn_one code th (c ∷ rest) xs made w = done_one code th c rest xs made w (w + work_of code c) (next_of code c)

pub one_ask : (code : CodeTree) (s : Lone) → length (asks_in (turn code s)) ≤ length (asks_in s) + 1
one_ask code (runs th xs made w) = turn_one code th th.contexts xs made w
one_ask code (waits made w) = omega arith
