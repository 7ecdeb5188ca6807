-- How calls end that nothing failed: what is in order ends in order, and what is refused is refused as it is planned.
use Rattle.std.specs.Prelude.{◌≡◌, ℕ, List, Ok}
use Rattle.flow_labels.specs.declared.Label.{Label}
use Rattle.lam_bytecode.specs.Codes.{CodeTree}
use Rattle.lam_machine_terms.specs.Worlds.{World}
use Rattle.lam_main_words.specs.Words.{Text}
use Rattle.lam_closed_words.specs.Words.{help, request_of}
use Rattle.lam_closed_plan.specs.declared.Status.{Status}
use Rattle.lam_closed_plan.specs.declared.Status.TheVariants.{Done}
use Rattle.lam_closed_plan.specs.Outcome.{Plan}
use Rattle.lam_closed_plan.specs.Plan.{IsPlan, IsRefused}
use Rattle.lam_closed_plan.specs.Answer.{Outside, AsPlanned}
use Rattle.lam_closed_laws.specs.Asks.{AsksRun, AsksCheck, IsRunEnd, IsUnfailed}

-- a call whose words, files and labels are in order ends as a closed run ends, or is done
pub record OrderlyCallsEnd (ws : List Text) (status : Status) (old : Outside) : Type 0 where
  pub runs :
      (code : CodeTree) (start : World) (o b : Label) (n : ℕ) (out : Text) →
      AsksRun ws old.files code start o b n out → IsUnfailed status → IsRunEnd status
  pub checks :
      (code : CodeTree) (start : World) (b : Label) (turns : List ℕ) →
      AsksCheck ws old.files code start b turns → IsUnfailed status → status ≡ Done
  pub helps : request_of ws ≡ Ok help → IsUnfailed status → status ≡ Done

-- the call ended as this refusal does, and did what it says: its line was printed, and no file changed
pub record IsRefusedAs (ws : List Text) (status : Status) (old new : Outside) (plan : Plan) : Type 0 where
  pub is : IsPlan ws old.files plan
  pub ends : status ≡ plan.status
  pub does : AsPlanned status plan old new

-- a call ends with the status of a refusal exactly where one of that status is planned; and where one is, nothing else is
pub record RefusalsAreExact (ws : List Text) (status : Status) (old new : Outside) : Type 0 where
  pub planned : IsRefused status → (plan : Plan) × IsRefusedAs ws status old new plan
  pub comes : (plan : Plan) → IsPlan ws old.files plan → IsRefused plan.status → IsUnfailed status → IsRefusedAs ws status old new plan
  pub alone : (plan other : Plan) → IsPlan ws old.files plan → IsPlan ws old.files other → plan ≡ other
