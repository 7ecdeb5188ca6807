-- How a call ends, what it prints and what it writes, by a plan of `lam` and the end of a closed run.
use Rattle.std.specs.Prelude.{◌≡◌, Option}
use Rattle.closed_terms.specs.declared.End.{End}
use Rattle.closed_terms.specs.declared.End.TheVariants as ends
use Rattle.lam_main_words.specs.Words.{Text}
use Rattle.lam_main_plan.specs.declared.Status.{Status as LamStatus}
use Rattle.lam_main_plan.specs.declared.Status.TheVariants as lam
use Rattle.lam_main_plan.specs.Refusals.{Plan as LamPlan}
use Rattle.lam_closed_plan.specs.declared.Status.{Status}
use Rattle.lam_closed_plan.specs.declared.Status.TheVariants.{Done, NoMemory, Words, Program, World, Book, Missing, ShelfFault, SinkFault, Cut, Waits, Stalled, Over}

-- how a call ends, what it prints, and the file that it writes, if any, by its name and its bytes
pub record Plan : Type 0 where
  pub status : Status
  pub text : Text
  pub writes : Option (Text × Text)

-- the status of a call whose closed run ended so
abbrev pub status_of : End → Status
status_of ends.Done = Done
status_of ends.Cut = Cut
status_of ends.Waits = Waits
status_of ends.Stalled = Stalled
status_of ends.Over = Over

-- The status of a call that ends as one of `lam` does: done by the end of its run, and else refused with the same number. The
-- statuses of the ends that runs of `lam` have besides come in no plan here.
abbrev pub ended : End → LamStatus → Status
ended e lam.Done = status_of e
ended e lam.NoMemory = NoMemory
ended e lam.Words = Words
ended e lam.Program = Program
ended e lam.World = World
ended e lam.Book = Book
ended e lam.Missing = Missing
ended e lam.ShelfFault = ShelfFault
ended e lam.SinkFault = SinkFault
ended e lam.Budget = Cut
ended e lam.AllWait = Waits

-- a plan of `lam`, with the end of the run
abbrev pub ended_plan : End → LamPlan → Plan
ended_plan e plan = record { status = ended e plan.status; text = plan.text; writes = plan.writes }

-- the plan of a call whose run ended so is one of `lam`
pub record EndsSo (e : End) (IsPlan : LamPlan → Type 0) (plan : Plan) : Type 0 where
  pub of_lam : LamPlan
  pub is : IsPlan of_lam
  pub same : plan ≡ ended_plan e of_lam
