use Rattle.lam_main_plan.proofs.PlanLemmas.{refusals_are_one}
use Rattle.lam_main_plan.proofs.refusals_are_one.Goals as goal

pub returns : goal.returns
returns c = refusals_are_one
