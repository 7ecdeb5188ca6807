use Rattle.std.proofs.Common.{string_bytes}
use Rattle.lam_print.proofs.Steps.{ListedSoFar}
use Rattle.lam_print.proofs.Views.{all_of_items}
use Rattle.lam_print.proofs.items.put_items.Given as goal

abbrev pub invariant-loop-i : goal.invariant-loop-i
invariant-loop-i l = ListedSoFar all_of_items l.items (string_bytes l.initial.out) (string_bytes l.out) l.i
