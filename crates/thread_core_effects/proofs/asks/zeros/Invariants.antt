use Rattle.std.proofs.Common.{◌≡◌, take, map}
use Rattle.lam_value.specs.Shapes.{zero_of}
use Rattle.thread_core_effects.proofs.asks.zeros.Given as goal

abbrev pub invariant-loop-kind : goal.invariant-loop-kind
invariant-loop-kind l = l.out.items ≡ map zero_of (take l.kind-index l.kinds)
