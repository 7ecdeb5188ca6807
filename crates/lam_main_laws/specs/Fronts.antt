-- What an observer is shown of a front of a run: the first of the lines that it is shown of the run.
use Rattle.std.specs.Prelude.{◌≡◌, ℕ, List, ◌++◌}
use Rattle.flow_labels.specs.declared.Label.{Label}
use Rattle.lam_io.specs.Outside.{Files}
use Rattle.lam_bytecode.specs.Codes.{CodeTree}
use Rattle.lam_machine_terms.specs.Worlds.{World}
use Rattle.lam_machine_terms.specs.Turns.{moments, IsRun}
use Rattle.audit_log.specs.Log.{view_lines}
use Rattle.lam_main_words.specs.Words.{Text}
use Rattle.lam_main_plan.specs.Refusals.{prints}
use Rattle.lam_main_plan.specs.Plan.{IsPlan}
use Rattle.lam_main_laws.specs.Calls.{ReplaysRun, PrintsFirst}

-- a text begins with another
abbrev pub BeginsWith : Text → Text → Type 0
BeginsWith text front = (rest : Text) × (text ≡ front ++ rest)

-- a front of a run is a run, and its view lines are a front of the view lines of the run
abbrev pub FrontsAreSeenFirst : CodeTree → Type 0
FrontsAreSeenFirst code =
    (names : List Text) (o : Label) (start : World) (front back : List ℕ) → IsRun code (front ++ back) start →
    IsRun code front start × BeginsWith (view_lines names o (moments code (front ++ back) start)) (view_lines names o (moments code front start))

-- a call prints first what every call that asks the same of this front of its run prints
pub record FrontIsPrinted (ws : List Text) (files : Files) (code : CodeTree) (start : World) (o : Label) (front : List ℕ) : Type 0 where
  pub begins : PrintsFirst ws files (view_lines start.names o (moments code front start))
  pub alone : (ws' : List Text) (files' : Files) → ReplaysRun ws' files' code start o front → IsPlan ws' files' (prints (view_lines start.names o (moments code front start)))

abbrev pub FrontsArePrinted : List Text → Files → Type 0
FrontsArePrinted ws files =
    (code : CodeTree) (start : World) (o : Label) (front back : List ℕ) →
    ReplaysRun ws files code start o (front ++ back) → FrontIsPrinted ws files code start o front
