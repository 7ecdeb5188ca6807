use Rattle.std.proofs.Common.{◌∙◌}
use Rattle.lam_value_homes.proofs.Rows.{count_seen}
use Rattle.lam_value_homes.proofs.counters.Counters.next.Goals as goal

pub returns : goal.returns
returns c = c.count_of.ensures ∙ count_seen _ _ c.self.invariant.unique c.self.view_is _
