-- What two calls of `run` show, whose worlds agree below the observer's label.
--
-- Two worlds agree below an observer's label, and are run closed with the same number of open turns. Where nothing is released
-- past the label and both runs end publicly (done, cut, waiting), the observer is shown the same, byte for byte. No schedule is
-- a premise.
use Rattle.std.specs.Prelude.{◌≡◌, ℕ, true, List, Option}
use Rattle.flow_labels.specs.Flow.{flows}
use Rattle.flow_labels.specs.declared.Label.{Label}
use Rattle.lam_io.specs.Outside.{Took}
use Rattle.lam_bytecode.specs.Codes.{CodeTree}
use Rattle.lam_machine_terms.specs.Worlds.{World}
use Rattle.lam_machine_terms.specs.Views.{Agree}
use Rattle.closed_terms.specs.declared.End.{End}
use Rattle.closed_terms.specs.Items.{NoReleases}
use Rattle.closed_terms.specs.Ends.{IsEnded}
use Rattle.lam_main_words.specs.Words.{Text}
use Rattle.lam_closed_words.specs.Words.{request_of}
use Rattle.lam_closed_plan.specs.declared.Status.{Status}
use Rattle.lam_closed_plan.specs.Plan.{IsPlan, written_by}
use Rattle.lam_closed_plan.specs.Answer.{Outside, IsAnswer}
use Rattle.lam_closed_laws.specs.Asks.{AsksRun, IsPublicEnd}
use Rattle.lam_closed_laws.specs.Alone.{noted_of}

-- the closed run from a start, of which there is one, releases nothing past the observer
abbrev pub IsQuiet : CodeTree → Label → Label → ℕ → World → Type 0
IsQuiet code b o n start = (turns : List ℕ) (e : End) → IsEnded b code n e turns start → NoReleases (noted_of code o start turns)

-- both calls printed the same text, and ended with the same status
pub record PrintSame (status status' : Status) (old new old' new' : Option Text) : Type 0 where
  pub text : Text
  pub first : Took old new text
  pub second : Took old' new' text
  pub ends : status ≡ status'

-- The call, and any other one of the same program, base, number of open turns and observer, from a start that the observer
-- cannot tell apart: where neither releases past the observer and both end publicly, they print the same and end the same.
abbrev pub CallsShowSame : List Text → Status → Outside → Outside → Type 0
CallsShowSame ws status old new =
    (ws' : List Text) (status' : Status) (old' new' : Outside) → IsAnswer (written_by (request_of ws')) status' (IsPlan ws' old'.files) old' new' →
    (code : CodeTree) (start start' : World) (o b : Label) (n : ℕ) (out out' : Text) →
    AsksRun ws old.files code start o b n out → AsksRun ws' old'.files code start' o b n out' →
    flows b o ≡ true → Agree o start start' → IsQuiet code b o n start → IsQuiet code b o n start' →
    IsPublicEnd status → IsPublicEnd status' →
    PrintSame status status' old.taken new.taken old'.taken new'.taken
