-- What a call of `check` tells of a run.
use Rattle.std.specs.Prelude.{◌≡◌, ◌↔◌, ℕ, List, Some, None}
use Rattle.flow_labels.specs.declared.Label.{Label}
use Rattle.lam_io.specs.Outside.{Files}
use Rattle.lam_bytecode.specs.Codes.{CodeTree}
use Rattle.lam_machine_terms.specs.Worlds.{World}
use Rattle.closed_terms.specs.declared.Departure.{Departure}
use Rattle.closed_terms.specs.Departures.{departure}
use Rattle.closed_terms.specs.Schedule.{first_slot, IsClosed}
use Rattle.closed_laws.specs.Departs.{IsFirstDeparture}
use Rattle.lam_main_words.specs.Words.{Text}
use Rattle.lam_closed_plan.specs.Checks.{departure_line}
use Rattle.lam_closed_plan.specs.Plan.{prints, IsPlan}
use Rattle.lam_closed_laws.specs.Asks.{AsksCheck}

-- The line of the departure is planned, which there is none of exactly where the turns are a closed run; and else it is the
-- first turn with which they are none, and its thread.
pub record CheckTells (ws : List Text) (files : Files) (code : CodeTree) (start : World) (b : Label) (turns : List ℕ) : Type 0 where
  pub printed : IsPlan ws files (prints (departure_line (departure b code turns start)))
  pub closed : (departure b code turns start ≡ None) ↔ IsClosed b code turns start first_slot
  pub first : (d : Departure) → (departure b code turns start ≡ Some d) ↔ IsFirstDeparture b code turns start d

abbrev pub ChecksAreTold : List Text → Files → Type 0
ChecksAreTold ws files =
    (code : CodeTree) (start : World) (b : Label) (turns : List ℕ) →
    AsksCheck ws files code start b turns → CheckTells ws files code start b turns
