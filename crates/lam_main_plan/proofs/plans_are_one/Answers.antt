use Rattle.lam_main_plan.proofs.PlanLemmas.{plans_are_one}
use Rattle.lam_main_plan.proofs.plans_are_one.Goals as goal

pub returns : goal.returns
returns c = plans_are_one
