use Rattle.std.proofs.Common.{◌≡◌, take}
use Rattle.flow_labels.proofs.names.TagNames.copy.Given as goal

abbrev pub invariant-loop-text : goal.invariant-loop-text
invariant-loop-text l = l.names ≡ take l.text-index l.fn.self
