use Rattle.std.proofs.Common.{◌≡◌, take}
use Rattle.lam_machine_equal.proofs.copies.copied_classes.Given as goal

abbrev pub invariant-loop-kinds : goal.invariant-loop-kinds
invariant-loop-kinds l = l.out.items ≡ take l.kinds-index l.classes
