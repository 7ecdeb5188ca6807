use Rattle.lam_closed_plan.proofs.OnceLemmas.{plans_are_one}
use Rattle.lam_closed_plan.proofs.plans_are_one.Goals as goal

pub returns : goal.returns
returns c = plans_are_one c.each_start_ends_once.ensures
