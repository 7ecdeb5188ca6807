-- Where a list of turns leaves the closed schedule.
use Rattle.std.specs.Prelude.{ℕ, suc, nat_eq, if◌then◌else◌, List, [], ◌∷◌, Option, Some, None}
use Rattle.labelled_heap.specs.Label.{Label}
use Rattle.thread_steps.specs.Codes.{CodeTree}
use Rattle.lam_machine_terms.specs.Worlds.{World}
use Rattle.lam_machine_terms.specs.Turns.{Moment, step}
use Rattle.closed_terms.specs.declared.Departure.{Departure}
use Rattle.closed_terms.specs.declared.Slot.{Slot}
use Rattle.closed_terms.specs.Schedule.{first_slot, next_slot, after}

-- A thread departs here, unless it has the slot for the next turn and takes it; then the rest decides. Who is next is ready,
-- so that the second clause stands for nothing.
abbrev pub departs_unless : Option Slot → Option Moment → Departure → (Slot → Moment → Option Departure) → Option Departure
departs_unless None it here rest = Some here
departs_unless (Some next) None here rest = Some here
departs_unless (Some next) (Some m) here rest = if nat_eq next.thread here.thread then rest next m else Some here

-- the first departure of the turns that are left, of which the first has the number k
abbrev pub departure_from : Label → CodeTree → List ℕ → World → Slot → ℕ → Option Departure
departure_from b code [] w s k = None
departure_from b code (t ∷ ts) w s k =
    departs_unless (next_slot b code w s) (step code w t) (record { turn = k; thread = t }) (λ next m. departure_from b code ts m.world (after b next m) (suc k))

-- the first turn whose thread is not the next one, and none where all turns are the schedule's
abbrev pub departure : Label → CodeTree → List ℕ → World → Option Departure
departure b code turns start = departure_from b code turns start first_slot 0
