-- Which threads live and are ready, by those that are there.
use Rattle.std.proofs.Common.{◌≡◌, ℕ, ◌<◌, ◌≤◌, Bool, true, false, List, Option, Some, None, length, refl, sym, ap, ◌∙◌, arith}
use Rattle.std.specs.Prelude.{is_some, is_none, slice_get}
use Rattle.std.proofs.lemmas.Option.{slice_get_within}
use Rattle.lam_asks.specs.declared.answer.Outcome.{Outcome}
use Rattle.lam_bytecode.specs.Codes.{CodeTree}
use Rattle.thread_steps.specs.Threads.{Thread}
use Rattle.lam_machine_terms.specs.Worlds.{World, thread_at}
use Rattle.lam_machine_terms.specs.Turns.{is_living, turn_in, step, ready, IsDone, AllWait}
use Rattle.lam_machine_runs.specs.Ends.{NoneReady}

within : (t n m : ℕ) → t < n → n ≤ m → t < m
within t n m h k = omega (arith, h, k)

-- what holds of no thread below the end, and of none that is not there, holds of none
module _ (threads : List Thread) (p : ℕ → Bool) (absent : (t : ℕ) → slice_get threads t ≡ None → p t ≡ false) (n : ℕ) (all : length threads ≤ n) (below : (t : ℕ) → t < n → p t ≡ false) where
  at_thread : (t : ℕ) (o : Option Thread) → slice_get threads t ≡ o → p t ≡ false
  at_thread t None e = absent t e
  at_thread t (Some th) e = below t (within t (length threads) n (slice_get_within threads t th e) all)

  nowhere : (t : ℕ) → p t ≡ false
  nowhere t = at_thread t (slice_get threads t) refl

-- ---- who lives

ended_as : (r : Option Outcome) → is_none r ≡ false → is_some r ≡ true
ended_as None e = cc
ended_as (Some r) e = refl

lives_as : (r : Option Outcome) → is_none r ≡ true → is_some r ≡ true → ⊥
lives_as None e f = cc
lives_as (Some r) e f = cc

pub none_lives : (w : World) (n : ℕ) → length w.threads ≤ n → ((t : ℕ) → t < n → is_living (thread_at w t) ≡ false) → IsDone w
none_lives w n all below t th e =
    ended_as th.result (sym (ap is_living e) ∙ nowhere w.threads (λ u. is_living (thread_at w u)) (λ u h. ap is_living h) n all below t)

still_lives : (w : World) (t : ℕ) (o : Option Thread) → thread_at w t ≡ o → is_living o ≡ true → IsDone w → ⊥
still_lives w t None e f done = cc
still_lives w t (Some th) e f done = lives_as th.result f (done t th e)

pub not_done : (w : World) (t : ℕ) → is_living (thread_at w t) ≡ true → IsDone w → ⊥
not_done w t e done = still_lives w t (thread_at w t) refl e done

-- ---- who is ready

absent_waits : (code : CodeTree) (w : World) (t : ℕ) → thread_at w t ≡ None → ready code w t ≡ false
unfolding ready step
absent_waits code w t e = ap (λ x. is_some (turn_in code w t x)) e

pub none_ready : (code : CodeTree) (w : World) (n : ℕ) → length w.threads ≤ n → ((t : ℕ) → t < n → ready code w t ≡ false) → NoneReady code w
none_ready code w n all below t = nowhere w.threads (λ u. ready code w u) (absent_waits code w) n all below t

-- ---- who waits

pub all_waiting : (code : CodeTree) (w : World) (t : ℕ) → is_living (thread_at w t) ≡ true → NoneReady code w → AllWait code w
all_waiting code w t e none = record { some_lives = (t, e); none_ready = none }

pub done_not_waiting : (code : CodeTree) (w : World) → IsDone w → AllWait code w → ⊥
done_not_waiting code w done wait = not_done w wait.some_lives.0 wait.some_lives.1 done

pub ready_not_waiting : (code : CodeTree) (w : World) (t : ℕ) → ready code w t ≡ true → AllWait code w → ⊥
ready_not_waiting code w t e wait = let no : true ≡ false = sym e ∙ wait.none_ready t in cc
