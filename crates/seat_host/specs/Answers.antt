-- What a caller's turn answers, and what its place then holds.
use Rattle.std.specs.Prelude.{◌≡◌, ℕ, ◌<◌, ◌≤◌, List, true, false, length, Option, Some, None, IfSome}
use Rattle.lam_asks.specs.declared.answer.Event.{Event}
use Rattle.lam_machine_terms.specs.Worlds.{World}
use Rattle.lam_machine_terms.specs.Turns.{ready}
use Rattle.lam_machine_laws.specs.Turned.{IsTurn}
use Rattle.seat_host.specs.Places.{Shared, turns_in, world_at, last_of}
use Rattle.seat_host.specs.declared.answer.TurnAnswer.{TurnAnswer}
use Rattle.seat_host.specs.declared.answer.TurnAnswer.TheVariants.{Worn, Stale, Full, NotReady, NoMemory, Took}
use Rattle.turn_book.specs.Limits.{most_turns}

-- what the place of an answer holds
abbrev pub holding : ℕ → TurnAnswer → Option ℕ
holding thread (Worn drawn) = None
holding thread (Stale place seen) = None
holding thread (Full place) = None
holding thread (NotReady place) = None
holding thread (NoMemory place) = None
holding thread (Took place event) = Some thread

-- the thread's last place was seen, or there is none
abbrev pub IsFresh : ℕ → Option ℕ → Type 0
IsFresh seen last = IfSome last (λ l. l < seen)

-- the world at the next place
abbrev pub world_of : Shared → World
world_of s = world_at s.code s.start s.places

-- a turn may be taken at the next place, as far as it is not for the thread to be ready
pub record HasRoom (s : Shared) (seen thread place : ℕ) : Type 0 where
  pub place_is : place ≡ length s.places
  pub fresh : IsFresh seen (last_of thread s.places)
  pub room : length (turns_in s.places) < most_turns

-- when each answer comes at the next place, to a caller that had seen so many
abbrev pub Comes : Shared → ℕ → ℕ → TurnAnswer → Type 0
Comes s seen thread (Worn drawn) = ⊥
Comes s seen thread (Stale place last) = (place ≡ length s.places) × (last_of thread s.places ≡ Some last) × (seen ≤ last)
Comes s seen thread (Full place) = (place ≡ length s.places) × IsFresh seen (last_of thread s.places) × (most_turns ≤ length (turns_in s.places))
Comes s seen thread (NotReady place) = HasRoom s seen thread place × (ready s.code (world_of s) thread ≡ false)
Comes s seen thread (NoMemory place) = HasRoom s seen thread place × (ready s.code (world_of s) thread ≡ true)
Comes s seen thread (Took place event) = HasRoom s seen thread place × ((after : World) × IsTurn s.code thread (world_of s) event after)
