use Rattle.std.proofs.Common.{string_bytes}
use Rattle.lam_print.proofs.Steps.{EachSoFar}
use Rattle.lam_print.proofs.Views.{all_fields}
use Rattle.lam_print.proofs.items.put_fields.Given as goal

abbrev pub invariant-loop-x : goal.invariant-loop-x
invariant-loop-x l = EachSoFar all_fields l.fields (string_bytes l.initial.out) (string_bytes l.out) l.x-index
