-- What the slot keeps: a run, the places that hold its turns, and the last place of each thread.
use Rattle.std.specs.Prelude.{◌≡◌, ℕ, ◌+◌, ◌<◌, ◌≤◌, ◌++◌, ◌==◌, List, [], ◌∷◌, cond, true, false, length, Option, Some, None, slice_index_or}
use Rattle.lam_asks.specs.declared.answer.Event.{Event}
use Rattle.lam_machine_terms.specs.Turns.{ready}
use Rattle.lam_machine_laws.specs.Turned.{IsTurn}
use Rattle.thread_host_run.specs.Runs.{Ran, with_turn}
use Rattle.seat_host.specs.Places.{turns_in, spread, last_of}
use Rattle.seat_host.specs.Answers.{IsFresh}
use Rattle.seat_host.specs.declared.answer.TurnAnswer.{TurnAnswer}
use Rattle.seat_host.specs.declared.answer.TurnAnswer.TheVariants.{Worn, Stale, Full, NotReady, NoMemory, Took}
use Rattle.turn_book.specs.Limits.{most_turns}

-- the last place of a thread, in a table by threads
abbrev pub last_in : List (Option ℕ) → ℕ → Option ℕ
last_in table t = slice_index_or table t None

-- the listed places hold the run's turns, and the table has the last place of each thread
pub record IsBook (turns held : List ℕ) (table : List (Option ℕ)) (count : ℕ) : Type 0 where
  pub turns_are : turns_in (spread 0 count held turns) ≡ turns
  pub lengths : length held ≡ length turns
  pub last : (t : ℕ) → last_of t (spread 0 count held turns) ≡ last_in table t

-- a table that says the same
abbrev pub SaysSame : List (Option ℕ) → List (Option ℕ) → Type 0
SaysSame table after = (t : ℕ) → last_in after t ≡ last_in table t

abbrev pub SaysLast : ℕ → ℕ → List (Option ℕ) → List (Option ℕ) → Type 0
SaysLast thread place table after = (t : ℕ) → last_in after t ≡ cond (thread == t) (Some place) (last_in table t)

-- nothing was taken
pub record Stays (r : Ran) (held : List ℕ) (table : List (Option ℕ)) (s : Ran) (held_after : List ℕ) (table_after : List (Option ℕ)) : Type 0 where
  pub run : s ≡ r
  pub held_is : held_after ≡ held
  pub table_is : SaysSame table table_after

-- a turn was taken, at a place
pub record Takes (r : Ran) (held : List ℕ) (table : List (Option ℕ)) (place thread : ℕ) (event : Event) (s : Ran) (held_after : List ℕ) (table_after : List (Option ℕ)) : Type 0 where
  pub turn : IsTurn r.code thread r.world event s.world
  pub run : s ≡ with_turn r thread s.world
  pub held_is : held_after ≡ held ++ place ∷ []
  pub table_is : SaysLast thread place table table_after

-- what a thread that may take a turn answers
abbrev pub Tries : Ran → List ℕ → List (Option ℕ) → ℕ → ℕ → TurnAnswer → Ran → List ℕ → List (Option ℕ) → Type 0
Tries r held table place thread (NoMemory p) s held' table' = (p ≡ place) × Stays r held table s held' table'
Tries r held table place thread (Took p event) s held' table' = (p ≡ place) × Takes r held table place thread event s held' table'
Tries r held table place thread a s held' table' = ⊥

-- there is room for a turn, which the caller may ask for
pub record MayTry (r : Ran) (table : List (Option ℕ)) (seen thread : ℕ) : Type 0 where
  pub fresh : IsFresh seen (last_in table thread)
  pub room : length r.turns < most_turns

-- what a call answers at the next place, and what it leaves
abbrev pub Enters : Ran → List ℕ → List (Option ℕ) → ℕ → ℕ → ℕ → TurnAnswer → Ran → List ℕ → List (Option ℕ) → Type 0
Enters r held table place seen thread (Worn drawn) s held' table' = ⊥
Enters r held table place seen thread (Stale p last) s held' table' = (p ≡ place) × (last_in table thread ≡ Some last) × (seen ≤ last) × Stays r held table s held' table'
Enters r held table place seen thread (Full p) s held' table' =
    (p ≡ place) × IsFresh seen (last_in table thread) × (most_turns ≤ length r.turns) × Stays r held table s held' table'
Enters r held table place seen thread (NotReady p) s held' table' =
    (p ≡ place) × MayTry r table seen thread × (ready r.code r.world thread ≡ false) × Stays r held table s held' table'
Enters r held table place seen thread (NoMemory p) s held' table' =
    (p ≡ place) × MayTry r table seen thread × (ready r.code r.world thread ≡ true) × Stays r held table s held' table'
Enters r held table place seen thread (Took p event) s held' table' =
    (p ≡ place) × MayTry r table seen thread × Takes r held table place thread event s held' table'

-- what a place holds, where the listed places and turns are those from it on
abbrev pub first_at : ℕ → List ℕ → List ℕ → Option ℕ
first_at k [] ts = None
first_at k (p ∷ ps) [] = None
first_at k (p ∷ ps) (t ∷ ts) = cond (p == k) (Some t) None

-- how many turns stand before the next place
abbrev pub passed : ℕ → Option ℕ → ℕ
passed n None = n
passed n (Some t) = n + 1
