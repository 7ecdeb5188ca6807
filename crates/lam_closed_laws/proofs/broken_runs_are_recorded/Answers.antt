use Rattle.lam_closed_laws.proofs.CallLemmas.{broken_off}
use Rattle.lam_closed_laws.proofs.broken_runs_are_recorded.Goals as goal

pub returns : goal.returns
returns c = broken_off c.texts_are_starts.ensures c.order_is_a_conclusion.ensures c.ends_are_the_same.ensures.same c.ends_are_the_same.ensures.last c.releases_follow.ensures c.each_start_ends_once.ensures
