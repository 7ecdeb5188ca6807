-- What becomes of a book of turns: a run, or the first turn whose thread is not ready.
use Rattle.std.specs.Prelude.{◌≡◌, ◌<◌, ℕ, false, List, get_or, length, take, Option, Some, None}
use Rattle.lam_bytecode.specs.Codes.{CodeTree}
use Rattle.lam_machine_terms.specs.Worlds.{World}
use Rattle.lam_machine_terms.specs.Turns.{ready, replay, IsRun}
use Rattle.lam_machine_runs.specs.Stops.{stopped_at}
use Rattle.thread_host_run.specs.Runs.{Ran}
use Rattle.thread_host_run.specs.declared.books.RunOf.{RunOf}
use Rattle.thread_host_run.specs.declared.books.RunOf.TheVariants.{Whole, Stops}

-- the run of these turns
abbrev pub ran_by : CodeTree → World → List ℕ → Ran
ran_by code start turns = record { code = code; start = start; turns = turns; world = replay code turns start }

-- the turns are a run and stop nowhere, and this is it
pub record IsRunBy (code : CodeTree) (start : World) (turns : List ℕ) (run : Ran) : Type 0 where
  pub ready : IsRun code turns start
  pub unstopped : stopped_at code turns start ≡ None
  pub is : run ≡ ran_by code start turns

-- their run, or the first of them whose thread is not ready
abbrev pub IsRunOf : CodeTree → World → List ℕ → RunOf → Type 0
IsRunOf code start turns (Whole run) = IsRunBy code start turns run
IsRunOf code start turns (Stops turn thread) = stopped_at code turns start ≡ Some (record { turn = turn; thread = thread })

-- a run took all of the turns, or those before one whose thread is not ready
pub record StandsBefore (run : Ran) (turns : List ℕ) (n : ℕ) : Type 0 where
  pub taken : run.turns ≡ take n turns
  pub within : n < length turns
  pub waits : ready run.code run.world (get_or turns n 0) ≡ false

abbrev pub HasTaken : Ran → List ℕ → Option ℕ → Type 0
HasTaken run turns None = run.turns ≡ turns
HasTaken run turns (Some n) = StandsBefore run turns n
