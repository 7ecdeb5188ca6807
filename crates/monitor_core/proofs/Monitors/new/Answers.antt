use Rattle.std.proofs.Common.{subst, sym, ap}
use Rattle.monitor_core.specs.Held.{IsSound, held_in}
use Rattle.monitor_core.proofs.HeldLemmas.{sound_none}
use Rattle.monitor_core.proofs.Monitors.new.Goals as goal

pub invariant_of-result : goal.invariant_of-result
invariant_of-result c = subst IsSound (sym (ap held_in c.new.ensures.empty)) sound_none
