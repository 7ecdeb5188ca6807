-- What is shown of a run whose turns threads take: a program, the document of a world to start from, and a budget of
-- turns. Words and files do not tell whose turn comes when; the run's book does, which is written.
use Rattle.std.specs.Prelude.{◌≡◌, ℕ, List, Some}
use Rattle.lam_io.specs.Outside.{Files}
use Rattle.lam_bytecode.specs.Codes.{CodeTree}
use Rattle.lam_machine_terms.specs.Worlds.{World}
use Rattle.lam_machine_terms.specs.Turns.{Moment, moments}
use Rattle.lam_machine_runs.specs.Ends as ends
use Rattle.lam_machine_runs.specs.declared.How.{How}
use Rattle.lam_machine_runs.specs.declared.How.TheVariants as how
use Rattle.world_doc_terms.specs.Start.{start_of}
use Rattle.turn_book.specs.Book.{book}
use Rattle.lam_make.specs.Made.{program_text, world_text}
use Rattle.audit_log.specs.Sums.{summary_lines}
use Rattle.lam_main_words.specs.Words.{Text}
use Rattle.lam_main_plan.specs.declared.Status.{Status}
use Rattle.lam_main_plan.specs.declared.Status.TheVariants.{Done, Budget, AllWait}
use Rattle.lam_main_plan.specs.Refusals.{Plan}
use Rattle.lam_main_plan.specs.Reading.{WithFile, Thins, world_limit}
use Rattle.lam_main_plan.specs.Replays.{Reader, read_by, ByReader, ByWorld}
use Rattle.turn_book.specs.Limits.{most_turns}

-- the status of a call whose run ended so
abbrev pub status_of : How → Status
status_of how.Done = Done
status_of how.AllWait = AllWait
status_of how.Budget = Budget

-- the plan of a run that ended: what is shown of it is printed, and its book is written
abbrev pub shows_run : CodeTree → World → Text → (List Moment → Text) → List ℕ → How → Plan
shows_run code start out shown turns ended = record { status = status_of ended; text = shown (moments code turns start); writes = Some (out, book turns) }

-- the plan of some run of a code from a start, within a budget
pub record IsOfThreads (code : CodeTree) (start : World) (out : Text) (budget : ℕ) (shown : List Moment → Text) (plan : Plan) : Type 0 where
  pub turns : List ℕ
  pub ended : How
  pub runs : ends.Runs code start budget turns ended
  pub is : plan ≡ shows_run code start out shown turns ended

-- the files of such a run, but for its program: the document of its start, and the book that is written
pub record ThreadFiles : Type 0 where
  pub world : Text
  pub out : Text

-- the plan of a start: who reads comes before the threads
abbrev pub TakesTurns : Text → ℕ → Reader → CodeTree → World → Plan → Type 0
TakesTurns out budget reader code start plan = ByReader (IsOfThreads code start out budget) (read_by reader start.names) plan

-- the plan of a code: the document of the start is read next
abbrev pub StartsThreads : Files → ThreadFiles → ℕ → Reader → CodeTree → Plan → Type 0
StartsThreads files run budget reader code plan = WithFile (files run.world) run.world world_limit (λ bytes. ByWorld (TakesTurns run.out budget reader code) (start_of bytes code)) plan

-- the plan of the bytes of a program
abbrev pub RunsThreads : Files → ThreadFiles → ℕ → Reader → Text → Plan → Type 0
RunsThreads files run budget reader bytes plan = Thins (StartsThreads files run budget reader) bytes plan

-- ---- the input that is made of a number

-- the most turns of a made run
abbrev pub made_budget : ℕ
made_budget = most_turns

-- the plan of the made program and world, and of the summary of their run
abbrev pub Makes : ℕ → ℕ → Text → Plan → Type 0
Makes seed threads out plan =
    Thins (λ code. ByWorld (λ start. IsOfThreads code start out made_budget (summary_lines seed threads)) (start_of (world_text seed threads) code)) program_text plan
