use Rattle.lam_main_laws.proofs.Orderly.{orderly_done}
use Rattle.lam_main_laws.proofs.ends.orderly_calls_are_done.Goals as goal

pub returns : goal.returns
returns c = orderly_done c.runs_stop.ensures c.spelled_texts_are_bounded.ensures.documents c.plans_are_one.ensures
