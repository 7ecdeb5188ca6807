-- How calls end that nothing failed: what is in order ends in order, and what is refused is refused as it is planned.
use Rattle.std.specs.Prelude.{◌≡◌, ℕ, List, Ok}
use Rattle.flow_labels.specs.declared.Label.{Label}
use Rattle.lam_io.specs.Outside.{Files}
use Rattle.play_script.specs.Script.{Play}
use Rattle.lam_syntax.specs.Tree.{ProgramTree}
use Rattle.lam_bytecode.specs.Codes.{CodeTree}
use Rattle.lam_machine_terms.specs.Worlds.{World}
use Rattle.lam_main_words.specs.Words.{Text, check, code, make, help, request_of}
use Rattle.lam_main_plan.specs.declared.Status.{Status}
use Rattle.lam_main_plan.specs.declared.Status.TheVariants.{Done, NoMemory, ShelfFault, SinkFault}
use Rattle.lam_main_plan.specs.Refusals.{Plan}
use Rattle.lam_main_plan.specs.Reading.{HasFile, IsCompiled, program_limit}
use Rattle.lam_main_plan.specs.Plan.{IsPlan, IsRefused, PlaysScript, IsFormatted}
use Rattle.lam_main_plan.specs.Answer.{Outside, AsPlanned}
use Rattle.lam_main_laws.specs.Headline.{AsksRun, IsRunEnd}
use Rattle.lam_main_laws.specs.Calls.{ReplaysRun, AuditsRun}
use Rattle.lam_main_laws.specs.Pairs.{AsksPair}
use Rattle.lam_main_laws.specs.Walks.{AsksWalk}
use Rattle.lam_main_laws.specs.Saves.{AsksNext, CanBeSaved, HasFewBytes}

-- memory did not run out, and neither the file store nor the output failed
abbrev pub IsUnfailed : Status → Type 0
IsUnfailed NoMemory = ⊥
IsUnfailed ShelfFault = ⊥
IsUnfailed SinkFault = ⊥
IsUnfailed status = Unit {0}

-- ---- in order

-- the words ask for a command that starts no thread, and its files are there within their limits: the script is read and its
-- tags have the observer's; the program is spelt, and but for `format` has code; the world's document gives a start, whose
-- tags are the observer's; and the book is that of a run. Of `pair` that is said of both worlds and both books. Of `next`
-- nothing keeps the files at the end from being saved, or their document has few bytes
pub data IsOrderly (ws : List Text) (files : Files) : Type 0 where
  plays : (script : Play) (o : Label) → PlaysScript ws files script o → IsOrderly ws files
  checks : (program : Text) (tree : CodeTree) → request_of ws ≡ Ok (check program) → HasFile (files program) program_limit (λ bytes. IsCompiled bytes (Ok tree)) → IsOrderly ws files
  formats : (p : ProgramTree) → IsFormatted ws files p → IsOrderly ws files
  lists : (program : Text) (tree : CodeTree) → request_of ws ≡ Ok (code program) → HasFile (files program) program_limit (λ bytes. IsCompiled bytes (Ok tree)) → IsOrderly ws files
  replays : (tree : CodeTree) (start : World) (o : Label) (turns : List ℕ) → ReplaysRun ws files tree start o turns → IsOrderly ws files
  audits : (tree : CodeTree) (start : World) (turns : List ℕ) → AuditsRun ws files tree start turns → IsOrderly ws files
  helps : request_of ws ≡ Ok help → IsOrderly ws files
  pairs : (tree : CodeTree) (o : Label) (s : World) (turns : List ℕ) (s' : World) (turns' : List ℕ) → AsksPair ws files tree o s turns s' turns' → IsOrderly ws files
  walks : (tree : CodeTree) (start : World) (turns : List ℕ) → AsksWalk ws files tree start turns → IsOrderly ws files
  saves : (tree : CodeTree) (start : World) (turns : List ℕ) (a : AsksNext ws files tree start turns) → CanBeSaved a.holds.starts.bytes tree start turns → IsOrderly ws files
  saves_few : (tree : CodeTree) (start : World) (turns : List ℕ) (a : AsksNext ws files tree start turns) → HasFewBytes a.holds.starts.bytes tree start turns → IsOrderly ws files

-- such a call is done
abbrev pub OrderlyCallsAreDone : List Text → Status → Outside → Type 0
OrderlyCallsAreDone ws status old = IsOrderly ws old.files → IsUnfailed status → status ≡ Done

-- a call of `run` whose words, files and label are in order ends as a run ends
abbrev pub OrderlyRunsEnd : List Text → Status → Outside → Type 0
OrderlyRunsEnd ws status old =
    (tree : CodeTree) (start : World) (o : Label) (out : Text) (budget : ℕ) →
    AsksRun ws old.files tree start o out budget → IsUnfailed status → IsRunEnd status

-- every call of `make` ends as a run ends
abbrev pub MakesEnd : List Text → Status → Type 0
MakesEnd ws status = (seed threads : ℕ) (out : Text) → request_of ws ≡ Ok (make seed threads out) → IsUnfailed status → IsRunEnd status

-- ---- refused

-- the call ended as this refusal does, and did what it says: its line was printed, and no file changed
pub record IsRefusedAs (ws : List Text) (status : Status) (old new : Outside) (plan : Plan) : Type 0 where
  pub is : IsPlan ws old.files plan
  pub ends : status ≡ plan.status
  pub does : AsPlanned status plan old new

-- a call ends with the status of a refusal exactly where one of that status is planned, whatever the command; and where one is,
-- nothing else is planned
pub record RefusalsAreExact (ws : List Text) (status : Status) (old new : Outside) : Type 0 where
  pub planned : IsRefused status → (plan : Plan) × IsRefusedAs ws status old new plan
  pub comes : (plan : Plan) → IsPlan ws old.files plan → IsRefused plan.status → IsUnfailed status → IsRefusedAs ws status old new plan
  pub alone : (plan other : Plan) → IsRefused plan.status → IsPlan ws old.files plan → IsPlan ws old.files other → plan ≡ other
