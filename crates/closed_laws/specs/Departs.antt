-- What the first departure of a list of turns says.
use Rattle.std.specs.Prelude.{◌≡◌, ◌↔◌, ℕ, suc, List, take, Some, None, slice_get}
use Rattle.flow_labels.specs.declared.Label.{Label}
use Rattle.lam_machine_effects.specs.Codes.{CodeTree}
use Rattle.lam_machine_effects.specs.Worlds.{World}
use Rattle.closed_terms.specs.declared.Departure.{Departure}
use Rattle.closed_terms.specs.Departures.{departure}
use Rattle.closed_terms.specs.Schedule.{first_slot, IsClosed}

-- the thread takes the turn of this number, the turns before it are a closed run, and with it they are none
pub record IsFirstDeparture (b : Label) (code : CodeTree) (turns : List ℕ) (start : World) (d : Departure) : Type 0 where
  pub thread : slice_get turns d.turn ≡ Some d.thread
  pub before : IsClosed b code (take d.turn turns) start first_slot
  pub with_it : IsClosed b code (take (suc d.turn) turns) start first_slot → ⊥

pub record DeparturesAreFirst (code : CodeTree) (b : Label) : Type 0 where
  -- there is none exactly where the turns are a closed run
  pub none : (start : World) (turns : List ℕ) → (departure b code turns start ≡ None) ↔ IsClosed b code turns start first_slot
  -- else it is the first turn with which they are none
  pub first : (start : World) (turns : List ℕ) (d : Departure) → (departure b code turns start ≡ Some d) ↔ IsFirstDeparture b code turns start d
