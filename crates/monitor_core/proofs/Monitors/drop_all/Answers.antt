use Rattle.std.proofs.Common.{◌∙◌, sym, ap}
use Rattle.std.proofs.Math.ListN.{drop_of_length-le}
use Rattle.monitor_core.specs.Held.{takings, dropped}
use Rattle.monitor_core.proofs.HeldLemmas.{dropped_takings}
use Rattle.monitor_core.proofs.Monitors.drop_all.Goals as goal

pub returns-clause-takings : goal.returns-clause-takings
returns-clause-takings c r =
    ap (λ m. takings m r) (sym (ap (λ rs. dropped c.loop-r.self rs c.args.thread) (drop_of_length-le c.args.held.now c.loop-r-test.false)) ∙ c.loop-r.invariant)
    ∙ dropped_takings c.args.self.now c.args.held.now c.args.thread r
