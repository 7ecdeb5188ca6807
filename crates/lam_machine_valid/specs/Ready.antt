-- Which threads are ready.
use Rattle.std.specs.Prelude.{◌≡◌, ◌⊎◌, ℕ, Bool, true, false, not, List, [], ◌∷◌, Some, is_some}
use Rattle.lam_bytecode.specs.Codes.{CodeTree}
use Rattle.thread_steps.specs.Threads.{Context, Thread}
use Rattle.thread_steps.specs.Next.{Next, goes, asks, stuck, next_of}
use Rattle.lam_machine_laws.specs.Worlds.{World, thread_at, contexts_at}
use Rattle.lam_machine_laws.specs.Turns.{waits, ready, IsDone, AllWait}
use Rattle.lam_machine_laws.specs.Valid.{IsValid}

-- a private turn, or an ask that does not wait
abbrev pub goes_now : World → ℕ → Context → Next → Bool
goes_now w t c (goes inside) = true
goes_now w t c (asks a after) = not (waits w t c a)
goes_now w t c stuck = false

abbrev pub can_go : CodeTree → World → ℕ → List Context → Bool
can_go code w t [] = false
can_go code w t (c ∷ rest) = goes_now w t c (next_of code c)

abbrev pub ReadyThreadsCanGo : CodeTree → Type 0
ReadyThreadsCanGo code = (w : World) (t : ℕ) → ready code w t ≡ can_go code w t (contexts_at w t)

pub record EndedAreNotReady (code : CodeTree) : Type 0 where
  pub ended : (w : World) (t : ℕ) (th : Thread) → IsValid w → thread_at w t ≡ Some th → is_some th.result ≡ true → ready code w t ≡ false
  pub stuck : (w : World) (t : ℕ) (c : Context) (rest : List Context) → contexts_at w t ≡ c ∷ rest → next_of code c ≡ stuck → ready code w t ≡ false
  pub done : (w : World) → IsValid w → IsDone w → (t : ℕ) → ready code w t ≡ false

-- a world is done, or all that live in it wait, or some thread is ready
abbrev pub StandsOneWay : CodeTree → Type 0
StandsOneWay code = (w : World) → IsDone w ⊎ (AllWait code w ⊎ ((t : ℕ) × (ready code w t ≡ true)))
