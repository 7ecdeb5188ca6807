-- The private turns of a stretch, as turns of a course.
use Rattle.std.proofs.Common.{◌≡◌, ℕ, zero, suc, ◌+◌, ◌<◌, ◌≤◌, List, [], ◌∷◌, ◌++◌, length, Bool, true, false, ◌&&◌, Option, Some, refl, sym, ap, ◌∙◌, subst, add-one, arith, length-append}
use Rattle.std.specs.Prelude.{is_some, replicate}
use Rattle.std.proofs.lemmas.List.{append-nil, append_assoc, replicate_more, length-replicate, set-set}
use Rattle.flow_labels.specs.declared.Label.{Label}
use Rattle.lam_asks.specs.declared.answer.Outcome.{Outcome}
use Rattle.lam_asks.specs.declared.answer.What.TheVariants.{Private}
use Rattle.lam_bytecode.specs.Codes.{CodeTree}
use Rattle.thread_steps.specs.Threads.{Context, Thread}
use Rattle.thread_steps.specs.Next as next
use Rattle.thread_steps.specs.Next.{Next, goes, asks, stuck, next_of}
use Rattle.thread_core_stretches.specs.Turning.{moved, stepped_in, stepped}
use Rattle.thread_core_stretches.specs.declared.stretch.Stretch.{Stretch}
use Rattle.thread_core_stretches.specs.Stretches.{is_private, stands_private, rows, are_private, StretchStands}
use Rattle.lam_machine_terms.specs.Worlds.{World, thread_at, with_thread}
use Rattle.lam_machine_terms.specs.Turns.{ready}
use Rattle.lam_machine_laws.proofs.ThreadLemmas.{set_same}
use Rattle.lam_machine_laws.proofs.OwnLemmas.{set_here}
use Rattle.lam_machine_laws.specs.Turned.{IsTurn, Acts, gone_on}
use Rattle.lam_machine_laws.proofs.PartLemmas.{private_parts}
use Rattle.lam_machine.specs.Privately.{private_event}
use Rattle.lam_machine.proofs.AskLemmas.{acts_label}
use Rattle.lam_machine.specs.Worlds.{IsSound}
use Rattle.lam_machine.proofs.Sound.{sound_step}
use Rattle.thread_host_run.specs.Courses.{Progress, IsCourse, one_more}
use Rattle.thread_host_run.specs.Stretched.{StretchFits, checked_in}
use Rattle.thread_host_run.proofs.CourseLemmas.{course_grows}
use Rattle.thread_host_run.proofs.Others.{Moved}

-- ---- one private turn

module _ (code : CodeTree) (w : World) (t : ℕ) where
  by_next : (c : Context) (rest : List Context) (r : Option Outcome) (n : Next) → thread_at w t ≡ Some (record { contexts = c ∷ rest; result = r }) → next_of code c ≡ n → is_private (next.stands n) ≡ true
      → IsTurn code t w (private_event w t) (with_thread w t (record { contexts = moved c n ∷ rest; result = r }))
  by_next c rest r (goes i) at e p =
      let th : Thread = record { contexts = c ∷ rest; result = r } in
      let acts : Acts w t th c rest = record { at = at; list = refl } in
      subst (λ (l : Label). IsTurn code t w (record { label = l; thread = t; what = Private }) (with_thread w t (gone_on th c rest i)))
      (sym (acts_label w t th c rest acts)) (private_parts code w t th c rest i acts e)
  by_next c rest r (asks a i) at e p = absurd cc
  by_next c rest r stuck at e p = absurd cc

  by_contexts : (cs : List Context) (r : Option Outcome) → thread_at w t ≡ Some (record { contexts = cs; result = r }) → is_private (next.standing_in code cs) ≡ true
      → IsTurn code t w (private_event w t) (with_thread w t (record { contexts = stepped_in code cs; result = r }))
  by_contexts [] r at p = absurd cc
  by_contexts (c ∷ rest) r at p = by_next c rest r (next_of code c) at refl p

  pub private_turn : (th : Thread) → thread_at w t ≡ Some th → stands_private code th ≡ true → IsTurn code t w (private_event w t) (with_thread w t (stepped code th))
  private_turn th at p = by_contexts th.contexts th.result at p

  private_ready : (th : Thread) → thread_at w t ≡ Some th → stands_private code th ≡ true → ready code w t ≡ true
  unfolding ready
  private_ready th at p = ap is_some (private_turn th at p).is

-- ---- private turns in a row

both : (a b : Bool) → (a && b) ≡ true → (a ≡ true) × (b ≡ true)
both true true e = (refl, refl)
both true false e = absurd cc
both false b e = absurd cc

rows_result : (code : CodeTree) (n : ℕ) (th : Thread) → (rows code n th).result ≡ th.result
rows_result code zero th = refl
rows_result code (suc n) th = rows_result code n th

first_private : (code : CodeTree) (n : ℕ) (th : Thread) → are_private code (suc n) th ≡ true → stands_private code th ≡ true
first_private code zero th e = (both true (stands_private code th) e).1
first_private code (suc n) th e = first_private code n th (both (are_private code (suc n) th) (stands_private code (rows code (suc n) th)) e).0

with_own : (w : World) (t : ℕ) (th : Thread) → thread_at w t ≡ Some th → with_thread w t th ≡ w
with_own w t th at = ap (λ (ths : List Thread). record w { threads = ths }) (set_same t w.threads th at)

with_twice : (w : World) (t : ℕ) (a b : Thread) → with_thread (with_thread w t a) t b ≡ with_thread w t b
with_twice w t a b = ap (λ (ths : List Thread). record w { threads = ths }) (set-set w.threads t a b)

last_more : (ts : List ℕ) (n t : ℕ) → (ts ++ replicate n t) ++ t ∷ [] ≡ ts ++ replicate (suc n) t
last_more ts n t = append_assoc ts (replicate n t) (t ∷ []) ∙ ap (λ (us : List ℕ). ts ++ us) (replicate_more n t ∙ ap (λ (k : ℕ). replicate k t) (add-one n))

room_for : (ts : List ℕ) (n t limit : ℕ) → length ts + suc n ≤ limit → length (ts ++ replicate n t) < limit
room_for ts n t limit h = let a = length-append ts (replicate n t) in let b : length (replicate n t) ≡ n = length-replicate n t in omega (arith, a, b, h)

one_less : (m n limit : ℕ) → m + suc n ≤ limit → m + n ≤ limit
one_less m n limit h = omega (arith, h)

-- a thread after so many turns of its own, in a course
abbrev gone_so_far : CodeTree → ℕ → Progress → Thread → ℕ → Progress
gone_so_far code t p th n = record { turns = p.turns ++ replicate n t; world = with_thread p.world t (rows code n th) }

-- what each private turn of a thread keeps, as long as there is room, a row of them keeps
module _ (code : CodeTree) (t limit : ℕ) (P : Progress → Type 0) (keeps : (q : Progress) (after : World) → length q.turns < limit → IsTurn code t q.world (private_event q.world t) after → P q → P (one_more q t after)) (p : Progress) (th : Thread) (at : thread_at p.world t ≡ Some th) (begins : P p) where
  over_rows : (n : ℕ) → length p.turns + n ≤ limit → are_private code n th ≡ true → P (gone_so_far code t p th n)
  over_rows zero room all =
      let turns = append-nil p.turns in
      let world = with_own p.world t th at in
      subst P (λ i. record { turns = sym turns i; world = sym world i }) begins
  over_rows (suc n) room all =
      let k = both (are_private code n th) (stands_private code (rows code n th)) all in
      let q = gone_so_far code t p th n in
      let after = with_thread q.world t (rows code (suc n) th) in
      let there = set_here t p.world.threads (rows code n th) th at in
      let turns = last_more p.turns n t in
      let world = with_twice p.world t (rows code n th) (rows code (suc n) th) in
      let one = keeps q after (room_for p.turns n t limit room) (private_turn code q.world t (rows code n th) there k.1) (over_rows n (one_less (length p.turns) n limit room) k.0) in
      subst P (λ i. record { turns = turns i; world = world i }) one

enough : (n : ℕ) → n ≤ n
enough n = omega arith

-- ---- a stretch

module _ (code : CodeTree) (s : Stretch) (stands : StretchStands code s) (p : Progress) (there : thread_at p.world s.thread ≡ Some s.before) where
  pub stretch_keeps : (limit : ℕ) (P : Progress → Type 0) → ((q : Progress) (after : World) → length q.turns < limit → IsTurn code s.thread q.world (private_event q.world s.thread) after → P q → P (one_more q s.thread after))
      → length p.turns + s.count ≤ limit → P p → P (checked_in p s)
  stretch_keeps limit P keeps room begins =
      subst (λ (th : Thread). P (record { turns = p.turns ++ replicate s.count s.thread; world = with_thread p.world s.thread th })) (sym stands.0)
      (over_rows code s.thread limit P keeps p s.before there begins s.count room stands.1)

  -- runs of the code are sound from the world that it leaves
  pub stretch_sound : IsSound code p.world → IsSound code (checked_in p s).world
  stretch_sound sound =
      stretch_keeps (length p.turns + s.count) (λ (q : Progress). IsSound code q.world)
      (λ q after few turn old. sound_step code q.world s.thread (record { event = private_event q.world s.thread; made = turn.made; world = after }) old turn.is)
      (enough (length p.turns + s.count)) sound

  -- no monitor has changed its holder, and no thread has ended
  pub stretch_moved : Moved p.world s.thread (checked_in p s).world
  stretch_moved =
      record {
        from = s.before;
        to = s.after;
        at = there;
        result = ap (λ (th : Thread). th.result) stands.0 ∙ rows_result code s.count s.before;
        threads = refl;
        monitors = refl;
      }

  some_private : (n : ℕ) → 0 < n → are_private code n s.before ≡ true → stands_private code s.before ≡ true
  some_private zero lt e = absurd (omega (arith, lt))
  some_private (suc n) lt e = first_private code n s.before e

  -- a stretch with some turn is of a thread that is ready
  pub stretch_ready : 0 < s.count → ready code p.world s.thread ≡ true
  stretch_ready some = private_ready code p.world s.thread s.before there (some_private s.count some stands.1)

-- a course with a stretch checked in is a course
pub course_checked : (code : CodeTree) (start : World) (p : Progress) (s : Stretch) → StretchStands code s → StretchFits p s → IsCourse code start p → IsCourse code start (checked_in p s)
course_checked code start p s stands fits h =
    stretch_keeps code s stands p fits.1 1000000 (IsCourse code start)
    (λ q after few turn old. course_grows code start q s.thread (private_event q.world s.thread) after old few turn) fits.0 h
