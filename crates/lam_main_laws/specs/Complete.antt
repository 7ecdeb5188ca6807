-- Every call of `make` is in order: nothing but a run is planned of it.
use Rattle.std.specs.Prelude.{◌≡◌, ℕ, List, Ok}
use Rattle.lam_io.specs.Outside.{Files}
use Rattle.lam_bytecode.specs.Codes.{CodeTree}
use Rattle.lam_machine_terms.specs.Worlds.{World}
use Rattle.world_doc_terms.specs.Start.{start_of}
use Rattle.lam_make.specs.Made.{program_text, world_text}
use Rattle.audit_log_notes.specs.Sums.{summary_lines}
use Rattle.lam_main_words.specs.Words.{Text, make, request_of}
use Rattle.lam_main_plan.specs.Refusals.{Plan}
use Rattle.lam_main_plan.specs.Reading.{IsRunCode}
use Rattle.lam_main_plan.specs.Threads.{IsOfThreads, made_budget}
use Rattle.lam_main_plan.specs.Plan.{IsPlan}
use Rattle.lam_main_laws.specs.Headline.{IsRunEnd}

-- the made program has a code, the made document has a start of it, and each plan is that of a run of them
pub record IsMade (ws : List Text) (files : Files) (seed threads : ℕ) (out : Text) : Type 0 where
  pub code : CodeTree
  pub compiled : IsRunCode program_text code
  pub start : World
  pub starts : start_of (world_text seed threads) code ≡ Ok start
  pub planned : (plan : Plan) → IsPlan ws files plan → IsOfThreads code start out made_budget (summary_lines seed threads) plan × IsRunEnd plan.status

-- where words are those of `make`, each plan is that of a run, and no refusal
abbrev pub MakesAreComplete : List Text → Files → Type 0
MakesAreComplete ws files = (seed threads : ℕ) (out : Text) → request_of ws ≡ Ok (make seed threads out) → IsMade ws files seed threads out
