-- How turns are followed along the schedule, up to the first departure.
use Rattle.std.specs.Prelude.{◌≡◌, ◌+◌, ◌≤◌, ℕ, List, length, take, Option, Some, None, slice_get}
use Rattle.std.specs.Option.{option_map}
use Rattle.flow_labels.specs.declared.Label.{Label}
use Rattle.lam_bytecode.specs.Codes.{CodeTree}
use Rattle.lam_machine_terms.specs.Worlds.{World}
use Rattle.lam_machine_terms.specs.Turns.{Moment, step, replay, IsRun}
use Rattle.lam_machine_runs.specs.Stops.{NotReady}
use Rattle.lam_machine.specs.Worlds.{IsSound}
use Rattle.closed_terms.specs.declared.Departure.{Departure}
use Rattle.closed_terms.specs.declared.Slot.{Slot}
use Rattle.closed_terms.specs.Schedule.{next_slot, after}
use Rattle.closed_terms.specs.Departures.{departure}

-- it is next, and took its turn
pub record Went (b : Label) (code : CodeTree) (w : World) (s : Slot) (t : ℕ) (later : Slot) (end : World) : Type 0 where
  pub next : Slot
  pub is_next : next_slot b code w s ≡ Some next
  pub thread : next.thread ≡ t
  pub moment : Moment
  pub takes : step code w t ≡ Some moment
  pub slot : later ≡ after b next moment
  pub world : end ≡ moment.world

-- a thread is not next, and the world is as it was; or it is, and took its turn
abbrev pub GoesAlong : Label → CodeTree → World → Slot → ℕ → Option Slot → World → Type 0
GoesAlong b code w s t None end = ((next : Slot) → next_slot b code w s ≡ Some next → next.thread ≡ t → ⊥) × (end ≡ w)
GoesAlong b code w s t (Some later) end = Went b code w s t later end

-- the turn of this number, where there is one
abbrev pub departed : List ℕ → ℕ → Option Departure
departed turns n = option_map (λ t. record { turn = n; thread = t }) (slice_get turns n)

-- so many turns are a run that follows the schedule and leaves this world; the next one, if there is one, departs
pub record FollowsTo (b : Label) (code : CodeTree) (start : World) (turns : List ℕ) (n : ℕ) (w : World) : Type 0 where
  pub within : n ≤ length turns
  pub sound : IsSound code w
  pub run : IsRun code (take n turns) start
  pub world : w ≡ replay code (take n turns) start
  pub departs : departure b code turns start ≡ departed turns n

-- so many turns later
abbrev pub later : ℕ → Option NotReady → Option NotReady
later n stop = option_map (λ s. record { turn = n + s.turn; thread = s.thread }) stop
