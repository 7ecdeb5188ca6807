use Rattle.lam_value.specs.Flow.{flows}
use Rattle.monitor_core.proofs.HeldLemmas.{same_where, where_same}
use Rattle.monitor_core.proofs.Monitors.same_seen.Goals as goal

pub returns : goal.returns
returns c = (
  λ t. same_where c.self.inside.holders.entries c.other.inside.holders.entries c.args.self.now c.args.other.now c.self.view_is c.other.view_is (λ n. flows n.own c.args.observer.now) (c.same_maps.ensures.0 t),
  λ same. c.same_maps.ensures.1 (where_same c.self.inside.holders.entries c.other.inside.holders.entries c.args.self.now c.args.other.now c.self.view_is c.other.view_is (λ n. flows n.own c.args.observer.now) same),
)
