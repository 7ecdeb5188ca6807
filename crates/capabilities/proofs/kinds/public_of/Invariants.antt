use Rattle.std.proofs.Common.{◌≡◌, ◌++◌, drop}
use Rattle.capabilities.specs.Kinds.{adds_freely, drops_freely, places}
use Rattle.capabilities.proofs.kinds.public_of.Given as goal

abbrev pub invariant-loop-kind : goal.invariant-loop-kind
invariant-loop-kind l = record {
  at : l.tag ≡ l.kind-index;
  plus_so_far : places adds_freely 0 l.kinds ≡ l.plus.items ++ places adds_freely l.kind-index (drop l.kind-index l.kinds);
  minus_so_far : places drops_freely 0 l.kinds ≡ l.minus.items ++ places drops_freely l.kind-index (drop l.kind-index l.kinds);
}
