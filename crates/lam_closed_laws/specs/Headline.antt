-- What a call of `run` tells.
--
-- It prints for an observer exactly the visible events of the closed run that its book records. What is secret, and how long
-- it takes, moves no visible turn of it: the order of the visible turns is a conclusion.
use Rattle.std.specs.Prelude.{◌≡◌, ℕ, true, List, Some, Ok}
use Rattle.flow_labels.specs.Flow.{flows}
use Rattle.flow_labels.specs.declared.Label.{Label}
use Rattle.lam_io.specs.Outside.{Files, OthersStay, Took, TookFront}
use Rattle.lam_bytecode.specs.Codes.{CodeTree}
use Rattle.lam_machine_terms.specs.Worlds.{World}
use Rattle.lam_machine_terms.specs.Turns.{moments}
use Rattle.audit_log.specs.Log.{view_lines}
use Rattle.turn_book.specs.Book.{book}
use Rattle.closed_terms.specs.declared.End.{End}
use Rattle.closed_terms.specs.Ends.{IsEnded}
use Rattle.lam_main_words.specs.Words.{Text}
use Rattle.lam_closed_words.specs.Words.{run, request_of}
use Rattle.lam_closed_plan.specs.declared.Status.{Status}
use Rattle.lam_closed_plan.specs.declared.Status.TheVariants.{SinkFault}
use Rattle.lam_closed_plan.specs.Outcome.{Plan, status_of}
use Rattle.lam_closed_plan.specs.Plan.{IsPlan}
use Rattle.lam_closed_plan.specs.Answer.{Outside}
use Rattle.lam_closed_laws.specs.Asks.{AsksRun, IsRunEnd}
use Rattle.lam_closed_laws.specs.Alone.{TellsNoMore}

-- these turns are the closed run of the code from the start, which ended so; the file of the book holds them, and no other
-- file changed
pub record KeepsRun (code : CodeTree) (start : World) (b : Label) (n : ℕ) (out : Text) (turns : List ℕ) (e : End) (old new : Files) : Type 0 where
  pub ended : IsEnded b code n e turns start
  pub recorded : new out ≡ Some (book turns)
  pub others : OthersStay old new out

-- the file of the book records a closed run that ended as the call did, and what was printed is what the observer sees of it;
-- where the observer sees what is open, it can tell no more of it
pub record Recorded (code : CodeTree) (start : World) (o b : Label) (n : ℕ) (out : Text) (status : Status) (old new : Outside) : Type 0 where
  pub turns : List ℕ
  pub end : End
  pub keeps : KeepsRun code start b n out turns end old.files new.files
  pub ends : status ≡ status_of end
  pub printed : Took old.taken new.taken (view_lines start.names o (moments code turns start))
  pub alone : flows b o ≡ true → TellsNoMore code b o n start turns end

-- where words, files and labels are in order, a call that ended as a closed run ends is recorded
abbrev pub Headline : List Text → Status → Outside → Outside → Type 0
Headline ws status old new =
    (code : CodeTree) (start : World) (o b : Label) (n : ℕ) (out : Text) →
    AsksRun ws old.files code start o b n out → IsRunEnd status → Recorded code start o b n out status old new

-- the file of the book records a closed run, and a front of what the observer sees of it was printed, and not all of it
pub record BrokenOff (code : CodeTree) (start : World) (o b : Label) (n : ℕ) (out : Text) (old new : Outside) : Type 0 where
  pub turns : List ℕ
  pub end : End
  pub keeps : KeepsRun code start b n out turns end old.files new.files
  pub front : TookFront old.taken new.taken (view_lines start.names o (moments code turns start))
  pub alone : flows b o ≡ true → TellsNoMore code b o n start turns end

-- and one whose sink failed is broken off
abbrev pub BreaksOff : List Text → Status → Outside → Outside → Type 0
BreaksOff ws status old new =
    (code : CodeTree) (start : World) (o b : Label) (n : ℕ) (out : Text) →
    AsksRun ws old.files code start o b n out → status ≡ SinkFault → BrokenOff code start o b n out old new

-- words, files and labels are in order: there are a code, a start, an observer and a base of a run that the words ask for
pub record IsInOrder (ws : List Text) (files : Files) (n : ℕ) (out : Text) : Type 0 where
  pub code : CodeTree
  pub start : World
  pub observer : Label
  pub base : Label
  pub asked : AsksRun ws files code start observer base n out

-- a call of `run` ends as a closed run ends only where words, files and labels are in order
abbrev pub EndsInOrder : List Text → Status → Outside → Type 0
EndsInOrder ws status old =
    (program world label out base : Text) (n : ℕ) →
    request_of ws ≡ Ok (run program world label out base n) → IsRunEnd status → IsInOrder ws old.files n out

-- a plan is that of a closed run: what the observer sees of it is printed, and its book is written
pub record IsOfRun (code : CodeTree) (start : World) (o b : Label) (n : ℕ) (out : Text) (plan : Plan) : Type 0 where
  pub turns : List ℕ
  pub end : End
  pub ended : IsEnded b code n end turns start
  pub is : plan ≡ record { status = status_of end; text = view_lines start.names o (moments code turns start); writes = Some (out, book turns) }

-- where they are in order, each plan is that of the closed run, and no refusal; and there is one
pub record RunIsPlanned (ws : List Text) (files : Files) (code : CodeTree) (start : World) (o b : Label) (n : ℕ) (out : Text) : Type 0 where
  pub each : (plan : Plan) → IsPlan ws files plan → IsOfRun code start o b n out plan
  pub some : (plan : Plan) × IsPlan ws files plan

abbrev pub RunsAreComplete : List Text → Files → Type 0
RunsAreComplete ws files =
    (code : CodeTree) (start : World) (o b : Label) (n : ℕ) (out : Text) →
    AsksRun ws files code start o b n out → RunIsPlanned ws files code start o b n out
