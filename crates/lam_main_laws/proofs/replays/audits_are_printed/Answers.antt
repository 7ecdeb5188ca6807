use Rattle.lam_main_laws.proofs.ReplayLemmas.{printed}
use Rattle.lam_main_laws.proofs.replays.audits_are_printed.Goals as goal

pub returns : goal.returns
returns c = printed c.audits_are_whole.ensures c.two_asks_release.ensures c.runs_stop.ensures
