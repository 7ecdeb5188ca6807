use Rattle.std.proofs.Common.{◌∙◌, sym, subst}
use Rattle.monitor_core.specs.Held.{IsSound}
use Rattle.monitor_core.proofs.HeldLemmas.{kept}
use Rattle.monitor_core.proofs.Monitors.copy.Goals as goal

pub invariant_of-result : goal.invariant_of-result
invariant_of-result c = subst IsSound (c.self.view_is ∙ sym (kept c.self.inside.holders.entries c.args.self.now c.self.view_is _ c.in_ok-holders.ensures)) c.self.invariant

pub returns : goal.returns
returns c = kept c.self.inside.holders.entries c.args.self.now c.self.view_is _ c.in_ok-holders.ensures
