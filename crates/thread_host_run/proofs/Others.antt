-- A quiet turn of one thread, as the others see it: as many threads, each of them ready where it was.
use Rattle.std.proofs.Common.{◌≡◌, ℕ, zero, suc, Bool, true, false, List, [], ◌∷◌, Option, Some, None, length, refl, sym, ap, ◌∙◌}
use Rattle.std.specs.Prelude.{cond, not, ◌&&◌, is_some, is_none, slice_get, slice_set}
use Rattle.flow_labels.specs.declared.Label.{Label}
use Rattle.flow_labels.specs.Flow.{public_label}
use Rattle.flow_labels.specs.Failing.{first_failing, read_test, same_test}
use Rattle.lam_value.specs.declared.values.Value.{Value}
use Rattle.lam_value.specs.declared.values.Value.TheVariants.{Obj, Arr}
use Rattle.lam_asks.specs.declared.ask.Ask.{Ask}
use Rattle.lam_asks.specs.declared.ask.Ask.TheVariants.{MonEnter, MonLeave, Caught, Suppressed, Spawn, Join, End}
use Rattle.lam_asks.specs.declared.answer.Outcome.{Outcome}
use Rattle.monitor_core.specs.Held.{Held, is_free}
use Rattle.lam_bytecode.specs.Codes.{CodeTree}
use Rattle.thread_steps.specs.Threads.{Context, Thread}
use Rattle.thread_steps.specs.Next.{Next, goes, asks, stuck, next_of, with_inside, result_after, takes}
use Rattle.lam_machine_terms.specs.Worlds.{World, thread_at, with_thread}
use Rattle.lam_machine_terms.specs.Serves.{Served, Effect, takes_monitor, gives_back, drops, adds_thread, effect_of}
use Rattle.lam_machine_terms.specs.Serving.{publicly, serve}
use Rattle.lam_machine_terms.specs.Turns.{may_ask, is_living, is_taken, waits, is_ready, Moment, goes_on, served, turn_by, turn_on, turn_in, step, ready}
use Rattle.lam_machine_laws.specs.Judged.{deed_by}
use Rattle.lam_machine_laws.proofs.JudgedLemmas.{judged_by}
use Rattle.lam_machine_laws.proofs.ThreadLemmas.{length-set, some_inj}
use Rattle.lam_machine_laws.proofs.TurnLemmas.{acts, only}
use Rattle.thread_host_run.specs.Quiet.{touches_others, is_quiet}

-- a thread has become another one, which has ended where it had; no monitor has changed its holder
pub record Moved (w : World) (t : ℕ) (after : World) : Type 0 where
  pub from : Thread
  pub to : Thread
  pub at : thread_at w t ≡ Some from
  pub result : to.result ≡ from.result
  pub threads : after.threads ≡ slice_set w.threads t to
  pub monitors : after.monitors ≡ w.monitors

-- ---- what a quiet ask does

-- neither monitors nor threads change
abbrev IsStill : Effect → Type 0
IsStill (takes_monitor thing) = ⊥
IsStill (gives_back thing) = ⊥
IsStill (drops things) = ⊥
IsStill (adds_thread unit args caps) = ⊥
IsStill e = Unit {0}

still_keeps : (code : CodeTree) (t : ℕ) (e : Effect) (w : World) → IsStill e → ((effect_of code t e w).threads ≡ w.threads) × ((effect_of code t e w).monitors ≡ w.monitors)
still_keeps code t (takes_monitor thing) w h = absurd h
still_keeps code t (gives_back thing) w h = absurd h
still_keeps code t (drops things) w h = absurd h
still_keeps code t (adds_thread unit args caps) w h = absurd h
still_keeps code t e w h = (refl, refl)

deed_still : (w : World) (c : Context) (a : Ask) → not (touches_others a) ≡ true → IsStill (deed_by w c a).effect
deed_still w c (MonEnter thing) h = absurd cc
deed_still w c (MonLeave thing) h = absurd cc
deed_still w c (Caught fault) h = absurd cc
deed_still w c (Suppressed fault) h = absurd cc
deed_still w c (Spawn unit args caps) h = absurd cc
deed_still w c (End outcome) h = absurd cc
deed_still w c a h = tt

serve_still : (w : World) (c : Context) (a : Ask) → not (touches_others a) ≡ true → IsStill (serve w c a).effect
serve_still w c a h = judged_by (λ (d : Served). IsStill d.effect) w (publicly w.public c) a (λ x e. tt) (λ f e g. tt) (λ e g. deed_still w (publicly w.public c) a h)

result_stays : (old : Option Outcome) (a : Ask) → not (touches_others a) ≡ true → result_after old a ≡ old
result_stays old (End outcome) h = absurd cc
result_stays old a h = refl

-- ---- a quiet turn moves its thread

moved_by : (code : CodeTree) (w : World) (t : ℕ) (th : Thread) (c : Context) (rest : List Context) (nx : Next) (m : Moment) → thread_at w t ≡ Some th → turn_by code w t th c rest nx ≡ Some m → is_quiet m.event.what ≡ true → Moved w t m.world
moved_by code w t th c rest (goes i) m at h e =
    let leaves : with_thread w t (record { contexts = with_inside c i ∷ rest; result = th.result }) ≡ m.world = ap (λ (x : Moment). x.world) (some_inj (goes_on w t th c rest i) m h) in
    record {
      from = th;
      to = record { contexts = with_inside c i ∷ rest; result = th.result };
      at = at;
      result = refl;
      threads = sym (ap (λ (v : World). v.threads) leaves);
      monitors = sym (ap (λ (v : World). v.monitors) leaves);
    }
moved_by code w t th c rest (asks a i) m at h e =
    let d = serve w c a in
    let to = takes code th c rest i a d.answer in
    let is = (only (is_ready w t c a) (served code w t th c rest a i d) m h).1 in
    let quiet : not (touches_others a) ≡ true = ap (λ (x : Moment). is_quiet x.event.what) is ∙ e in
    let leaves : effect_of code t d.effect (with_thread w t to) ≡ m.world = ap (λ (x : Moment). x.world) is in
    let keeps = still_keeps code t d.effect (with_thread w t to) (serve_still w c a quiet) in
    record {
      from = th;
      to = to;
      at = at;
      result = result_stays th.result a quiet;
      threads = sym (ap (λ (v : World). v.threads) leaves) ∙ keeps.0;
      monitors = sym (ap (λ (v : World). v.monitors) leaves) ∙ keeps.1;
    }
moved_by code w t th c rest stuck m at h e = absurd cc

pub quiet_moves : (code : CodeTree) (w : World) (t : ℕ) (m : Moment) → step code w t ≡ Some m → is_quiet m.event.what ≡ true → Moved w t m.world
quiet_moves code w t m h e = let a = acts code w t m h in moved_by code w t a.thread a.top a.rest (next_of code a.top) m a.at a.gives e

-- ---- where one thread has moved

pub set_other : {X : Type 0} (xs : List X) (t u : ℕ) (x : X) → (t ≡ u → ⊥) → slice_get (slice_set xs t x) u ≡ slice_get xs u
set_other [] t u x ne = refl
set_other (y ∷ xs) zero zero x ne = absurd (ne refl)
set_other (y ∷ xs) zero (suc u) x ne = refl
set_other (y ∷ xs) (suc t) zero x ne = refl
set_other (y ∷ xs) (suc t) (suc u) x ne = set_other xs t u x (λ e. ne (ap suc e))

pub living_set : (xs : List Thread) (t : ℕ) (a b : Thread) → slice_get xs t ≡ Some a → b.result ≡ a.result → (u : ℕ) → is_living (slice_get (slice_set xs t b) u) ≡ is_living (slice_get xs u)
living_set [] t a b e same u = refl
living_set (x ∷ xs) zero a b e same zero = ap is_none same ∙ sym (ap is_living e)
living_set (x ∷ xs) zero a b e same (suc u) = refl
living_set (x ∷ xs) (suc t) a b e same zero = refl
living_set (x ∷ xs) (suc t) a b e same (suc u) = living_set xs t a b e same u

some_if : {X : Type 0} (a b : Bool) (x y : X) → a ≡ b → is_some (cond a (Some x) None) ≡ is_some (cond b (Some y) None)
some_if true true x y e = refl
some_if false false x y e = refl
some_if true false x y e = absurd cc
some_if false true x y e = absurd cc

-- no monitor has changed its holder, and no thread has ended: who is ready by those stays ready
module _ (code : CodeTree) (w after : World) (t : ℕ) (h : Moved w t after) where
  taken_same : (u : ℕ) (p : Label) (r : Value) → is_taken after u p r ≡ is_taken w u p r
  taken_same u p (Obj n) = ap (λ (held : Held). is_none (first_failing (same_test p n.own)) && not (is_free held n u)) h.monitors
  taken_same u p (Arr n len) = ap (λ (held : Held). is_none (first_failing (same_test p n.own)) && not (is_free held n u)) h.monitors
  taken_same u p r = refl

  living_same : (u : ℕ) → is_living (thread_at after u) ≡ is_living (thread_at w u)
  living_same u = ap (λ (ths : List Thread). is_living (slice_get ths u)) h.threads ∙ living_set w.threads t h.from h.to h.at h.result u

  waits_same : (u : ℕ) (c : Context) (a : Ask) → waits after u c a ≡ waits w u c a
  waits_same u c (MonEnter r) = taken_same u c.label r
  waits_same u c (Join v) = ap (λ b. is_none (first_failing (read_test c.label public_label)) && b) (living_same v)
  waits_same u c a = refl

  by_same : (u : ℕ) (th : Thread) (c : Context) (rest : List Context) (nx : Next) → is_some (turn_by code after u th c rest nx) ≡ is_some (turn_by code w u th c rest nx)
  by_same u th c rest (goes i) = refl
  by_same u th c rest (asks a i) = some_if (is_ready after u c a) (is_ready w u c a) _ _ (ap (λ b. may_ask c a && not b) (waits_same u c a))
  by_same u th c rest stuck = refl

  on_same : (u : ℕ) (th : Thread) (cs : List Context) → is_some (turn_on code after u th cs) ≡ is_some (turn_on code w u th cs)
  on_same u th [] = refl
  on_same u th (c ∷ rest) = by_same u th c rest (next_of code c)

  in_same : (u : ℕ) (x : Option Thread) → is_some (turn_in code after u x) ≡ is_some (turn_in code w u x)
  in_same u None = refl
  in_same u (Some th) = on_same u th th.contexts

  pub at_same : (u : ℕ) → (t ≡ u → ⊥) → thread_at after u ≡ thread_at w u
  at_same u ne = ap (λ (ths : List Thread). slice_get ths u) h.threads ∙ set_other w.threads t u h.to ne

  other_same : (u : ℕ) → (t ≡ u → ⊥) → ready code after u ≡ ready code w u
  unfolding ready step
  other_same u ne = ap (λ x. is_some (turn_in code after u x)) (at_same u ne) ∙ in_same u (thread_at w u)

pub others_ready : (code : CodeTree) (w : World) (t : ℕ) (after : World) → Moved w t after → (u : ℕ) → (t ≡ u → ⊥) → ready code after u ≡ ready code w u
others_ready code w t after h u ne = other_same code w after t h u ne

pub as_many : (w : World) (t : ℕ) (after : World) → Moved w t after → length after.threads ≡ length w.threads
as_many w t after h = ap length h.threads ∙ length-set t w.threads h.to
