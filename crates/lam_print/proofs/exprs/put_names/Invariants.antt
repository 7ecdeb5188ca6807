use Rattle.std.proofs.Common.{string_bytes}
use Rattle.lam_print.proofs.Steps.{ListedSoFar}
use Rattle.lam_print.proofs.Views.{all_of_names}
use Rattle.lam_print.proofs.exprs.put_names.Given as goal

abbrev pub invariant-loop-i : goal.invariant-loop-i
invariant-loop-i l = ListedSoFar all_of_names l.names (string_bytes l.initial.out) (string_bytes l.out) l.i
