use Rattle.monitor_core.proofs.HeldLemmas.{same_monitors, monitors_same}
use Rattle.monitor_core.proofs.Monitors.same.Goals as goal

pub returns : goal.returns
returns c = (
  λ t. same_monitors c.self.inside.holders.entries c.other.inside.holders.entries c.args.self.now c.args.other.now c.self.view_is c.other.view_is (c.same_maps.ensures.0 t),
  λ e. c.same_maps.ensures.1 (monitors_same c.self.inside.holders.entries c.other.inside.holders.entries c.args.self.now c.args.other.now c.self.view_is c.other.view_is e),
)
