-- How runs end.
use Rattle.std.specs.Prelude.{◌≡◌, ◌≤◌, ℕ, true, false, List, length}
use Rattle.lam_machine_terms.specs.Codes.{CodeTree}
use Rattle.lam_machine_terms.specs.Worlds.{World}
use Rattle.lam_machine_terms.specs.Turns as turns
use Rattle.lam_machine_terms.specs.Valid.{IsValid}
use Rattle.lam_machine_runs.specs.declared.How.{How}
use Rattle.lam_machine_runs.specs.declared.How.TheVariants.{Done, AllWait, Budget}

abbrev pub SomeReady : CodeTree → World → Type 0
SomeReady code w = (t : ℕ) × (turns.ready code w t ≡ true)

abbrev pub NoneReady : CodeTree → World → Type 0
NoneReady code w = (t : ℕ) → turns.ready code w t ≡ false

-- a run that took so many turns to a world has ended in this way, with a budget of turns
abbrev pub HasEnded : CodeTree → World → ℕ → ℕ → How → Type 0
HasEnded code w taken budget Done = turns.IsDone w
HasEnded code w taken budget AllWait = turns.AllWait code w
HasEnded code w taken budget Budget = SomeReady code w × (taken ≡ budget)

-- these turns are a run of a code from a start, within a budget, and it has ended in this way
pub record Runs (code : CodeTree) (start : World) (budget : ℕ) (taken : List ℕ) (how : How) : Type 0 where
  pub run : turns.IsRun code taken start
  pub within : length taken ≤ budget
  pub ended : HasEnded code (turns.replay code taken start) (length taken) budget how

-- in no other way, whatever was taken and whatever the budget
abbrev pub EndsOnlySo : CodeTree → World → How → Type 0
EndsOnlySo code w how = (taken budget : ℕ) (other : How) → HasEnded code w taken budget other → other ≡ how

-- in a valid world a run has ended in one way
abbrev pub EndsAreOne : CodeTree → Type 0
EndsAreOne code = (w : World) (taken budget : ℕ) (how : How) → IsValid w → HasEnded code w taken budget how → EndsOnlySo code w how
