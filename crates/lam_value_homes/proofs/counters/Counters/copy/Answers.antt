use Rattle.lam_value_homes.proofs.Rows.{same_seen}
use Rattle.lam_value_homes.proofs.counters.Counters.copy.Goals as goal

pub returns : goal.returns
returns c = same_seen _ _ c.self.invariant.unique c.self.view_is _ c.in_ok-rows.ensures.homes.unique c.in_ok-rows.ensures.same
