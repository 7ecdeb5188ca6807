use Rattle.std.proofs.Common.{◌≡◌, take}
use Rattle.written_code.specs.Writing.{classes_of}
use Rattle.written_code.proofs.classes_of.Given as goal

abbrev pub invariant-loop-kinds : goal.invariant-loop-kinds
invariant-loop-kinds l = l.classes.items ≡ classes_of (take l.kinds-index l.written)
