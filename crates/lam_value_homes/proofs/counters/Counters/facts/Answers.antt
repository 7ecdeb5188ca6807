use Rattle.std.proofs.Common.{◌∙◌}
use Rattle.lam_value_homes.proofs.Rows.{home_seen}
use Rattle.lam_value_homes.proofs.counters.Counters.facts.Goals as goal

pub returns : goal.returns
returns c h n e = c.self.invariant.above h n (home_seen _ _ c.self.invariant.unique c.self.view_is h ∙ e)
