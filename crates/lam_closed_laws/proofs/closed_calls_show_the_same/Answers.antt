use Rattle.lam_closed_laws.proofs.CallLemmas.{show_same}
use Rattle.lam_closed_laws.proofs.closed_calls_show_the_same.Goals as goal

pub returns : goal.returns
returns c = show_same c.texts_are_starts.ensures c.ends_are_the_same.ensures.quiet
