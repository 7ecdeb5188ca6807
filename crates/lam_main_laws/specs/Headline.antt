-- What a call of `run` tells, and one of `make`.
--
-- However its threads interleave, `run` prints for an observer exactly the visible events of the machine run that its
-- book records; and any other run of the program whose start agrees below the observer's label, with the same visible
-- turns in the same order and the same releases past the label, has the same visible events and visible state as far as
-- both go.
use Rattle.std.specs.Prelude.{◌≡◌, ℕ, ◌≤◌, List, length, Some, Ok, take}
use Rattle.flow_labels.specs.LabelText.{label_of}
use Rattle.flow_labels.specs.declared.Label.{Label}
use Rattle.lam_io.specs.Outside.{Files, OthersStay, Took, TookFront}
use Rattle.lam_bytecode.specs.Codes.{CodeTree}
use Rattle.lam_machine_terms.specs.Worlds.{World}
use Rattle.lam_machine_terms.specs.Turns.{moments, IsRun}
use Rattle.lam_machine_terms.specs.Views.{Agree, agenda}
use Rattle.lam_machine_laws.specs.Isolation.{AreWellLabelled, LookSame}
use Rattle.audit_log.specs.Log.{view_lines}
use Rattle.lam_machine_runs.specs.Ends.{Runs}
use Rattle.lam_machine_runs.specs.declared.How.{How}
use Rattle.world_doc_terms.specs.Start.{start_of}
use Rattle.turn_book.specs.Book.{book}
use Rattle.lam_make.specs.Made.{program_text, world_text}
use Rattle.audit_log_notes.specs.Sums.{summary_lines}
use Rattle.lam_main_words.specs.Words.{Text, run, make, request_of}
use Rattle.lam_main_plan.specs.declared.Status.{Status}
use Rattle.lam_main_plan.specs.declared.Status.TheVariants.{Done, SinkFault, Budget, AllWait}
use Rattle.lam_main_plan.specs.Refusals.{Plan}
use Rattle.lam_main_plan.specs.Reading.{HasFile, IsRunCode, program_limit, world_limit}
use Rattle.lam_main_plan.specs.Threads.{status_of, IsOfThreads, made_budget}
use Rattle.lam_main_plan.specs.Plan.{IsPlan}
use Rattle.lam_main_plan.specs.Answer.{Outside}

-- ---- `run`

-- the words ask what this observer sees of a run of this code from this start, within a budget of turns, whose book goes
-- to a file
pub record AsksRun (ws : List Text) (files : Files) (code : CodeTree) (start : World) (o : Label) (out : Text) (budget : ℕ) : Type 0 where
  pub program : Text
  pub world : Text
  pub label : Text
  pub workers : ℕ
  pub asks : request_of ws ≡ Ok (run program world label out workers budget)
  pub compiled : HasFile (files program) program_limit (λ bytes. IsRunCode bytes code)
  pub starts : HasFile (files world) world_limit (λ bytes. start_of bytes code ≡ Ok start)
  pub observes : label_of start.names label ≡ Ok o

-- the call ended as a run ends
abbrev pub IsRunEnd : Status → Type 0
IsRunEnd Done = Unit {0}
IsRunEnd Budget = Unit {0}
IsRunEnd AllWait = Unit {0}
IsRunEnd status = ⊥

-- these turns are a run of the code from the start, which ended so within the budget; the file of the book holds them,
-- and no other file changed
pub record KeepsRun (code : CodeTree) (start : World) (out : Text) (budget : ℕ) (turns : List ℕ) (ended : How) (old new : Files) : Type 0 where
  pub runs : Runs code start budget turns ended
  pub recorded : new out ≡ Some (book turns)
  pub others : OthersStay old new out

-- Any other run of the code, from a start that the observer cannot tell apart, looks the same to it as far as both have
-- the same agenda: the same threads at the turns that it sees, and the same releases past it. Of that start no more is
-- taken than that its first contexts are public and that its contexts list monitors of their own label, as in each valid
-- one.
abbrev pub LooksAlone : CodeTree → Label → World → List ℕ → Type 0
LooksAlone code o start turns =
    (s : World) (others : List ℕ) (n : ℕ) →
    AreWellLabelled s → IsRun code others s → Agree o start s →
    n ≤ length (agenda o (moments code turns start)) → n ≤ length (agenda o (moments code others s)) →
    take n (agenda o (moments code turns start)) ≡ take n (agenda o (moments code others s)) →
    LookSame n o start (moments code turns start) s (moments code others s)

-- the file of the book records a run that ended as the call did, and what was printed is what the observer sees of it
pub record Recorded (code : CodeTree) (start : World) (o : Label) (out : Text) (budget : ℕ) (status : Status) (old new : Outside) : Type 0 where
  pub turns : List ℕ
  pub ended : How
  pub keeps : KeepsRun code start out budget turns ended old.files new.files
  pub ends : status ≡ status_of ended
  pub printed : Took old.taken new.taken (view_lines start.names o (moments code turns start))
  pub alone : LooksAlone code o start turns

-- where words, files and label are in order, a call that ended as a run ends is recorded
abbrev pub Headline : List Text → Status → Outside → Outside → Type 0
Headline ws status old new =
    (code : CodeTree) (start : World) (o : Label) (out : Text) (budget : ℕ) →
    AsksRun ws old.files code start o out budget → IsRunEnd status → Recorded code start o out budget status old new

-- the file of the book records a run, and a front of what the observer sees of it was printed, and not all of it
pub record BrokenOff (code : CodeTree) (start : World) (o : Label) (out : Text) (budget : ℕ) (old new : Outside) : Type 0 where
  pub turns : List ℕ
  pub ended : How
  pub keeps : KeepsRun code start out budget turns ended old.files new.files
  pub front : TookFront old.taken new.taken (view_lines start.names o (moments code turns start))
  pub alone : LooksAlone code o start turns

-- and one whose sink failed is broken off
abbrev pub BreaksOff : List Text → Status → Outside → Outside → Type 0
BreaksOff ws status old new =
    (code : CodeTree) (start : World) (o : Label) (out : Text) (budget : ℕ) →
    AsksRun ws old.files code start o out budget → status ≡ SinkFault → BrokenOff code start o out budget old new

-- words, files and label are in order: there are a code, a start and an observer of a run that the words ask for
pub record IsInOrder (ws : List Text) (files : Files) (out : Text) (budget : ℕ) : Type 0 where
  pub code : CodeTree
  pub start : World
  pub observer : Label
  pub asked : AsksRun ws files code start observer out budget

-- a call of `run` ends as a run ends only where words, files and label are in order
abbrev pub EndsInOrder : List Text → Status → Outside → Type 0
EndsInOrder ws status old =
    (program world label out : Text) (workers budget : ℕ) →
    request_of ws ≡ Ok (run program world label out workers budget) → IsRunEnd status → IsInOrder ws old.files out budget

-- where they are in order, each plan is that of such a run, and no refusal
abbrev pub RunsAreComplete : List Text → Files → Type 0
RunsAreComplete ws files =
    (code : CodeTree) (start : World) (o : Label) (out : Text) (budget : ℕ) (plan : Plan) →
    AsksRun ws files code start o out budget → IsPlan ws files plan →
    IsOfThreads code start out budget (view_lines start.names o) plan × IsRunEnd plan.status

-- ---- `make`

-- the file of the book records a run of the code of the made program from the made world, which ended as the call did,
-- and the summary of that run was printed
pub record Generated (seed threads : ℕ) (out : Text) (status : Status) (old new : Outside) : Type 0 where
  pub code : CodeTree
  pub compiled : IsRunCode program_text code
  pub start : World
  pub starts : start_of (world_text seed threads) code ≡ Ok start
  pub turns : List ℕ
  pub ended : How
  pub keeps : KeepsRun code start out made_budget turns ended old.files new.files
  pub ends : status ≡ status_of ended
  pub printed : Took old.taken new.taken (summary_lines seed threads (moments code turns start))

-- a call of `make` that ended as a run ends is recorded
abbrev pub GeneratedRuns : List Text → Status → Outside → Outside → Type 0
GeneratedRuns ws status old new =
    (seed threads : ℕ) (out : Text) →
    request_of ws ≡ Ok (make seed threads out) → IsRunEnd status → Generated seed threads out status old new

-- the file of the book records a run of the code of the made program from the made world, and a front of its summary was
-- printed, and not all of it
pub record GeneratedInPart (seed threads : ℕ) (out : Text) (old new : Outside) : Type 0 where
  pub code : CodeTree
  pub compiled : IsRunCode program_text code
  pub start : World
  pub starts : start_of (world_text seed threads) code ≡ Ok start
  pub turns : List ℕ
  pub ended : How
  pub keeps : KeepsRun code start out made_budget turns ended old.files new.files
  pub front : TookFront old.taken new.taken (summary_lines seed threads (moments code turns start))

-- a call of `make` whose sink failed is broken off
abbrev pub MakesBreakOff : List Text → Status → Outside → Outside → Type 0
MakesBreakOff ws status old new =
    (seed threads : ℕ) (out : Text) →
    request_of ws ≡ Ok (make seed threads out) → status ≡ SinkFault → GeneratedInPart seed threads out old new
