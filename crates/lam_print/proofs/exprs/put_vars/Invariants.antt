use Rattle.std.proofs.Common.{string_bytes}
use Rattle.lam_print.proofs.Steps.{ListedSoFar}
use Rattle.lam_print.proofs.Views.{all_of_vars}
use Rattle.lam_print.proofs.exprs.put_vars.Given as goal

abbrev pub invariant-loop-i : goal.invariant-loop-i
invariant-loop-i l = ListedSoFar all_of_vars l.vars (string_bytes l.initial.out) (string_bytes l.out) l.i
