use Rattle.std.proofs.Common.{◌∙◌}
use Rattle.monitor_core.proofs.HeldLemmas.{holder_seen}
use Rattle.monitor_core.proofs.Monitors.holder.Goals as goal

pub returns : goal.returns
returns c = c.find_holder.ensures ∙ holder_seen c.self.inside.holders.entries c.args.self.now c.self.view_is c.args.r.now
