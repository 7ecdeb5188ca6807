use Rattle.std.proofs.Common.{List}
use Rattle.lam_syntax.specs.declared.Id.{Id}
use Rattle.lam_syntax.specs.Tree.{ids_tree}
use Rattle.lam_syntax.specs.Unplaced.{unplaced_ids}
use Rattle.lam_syntax.proofs.Lists.{SameSoFar}
use Rattle.lam_sameness.proofs.same_ids.Given as goal

abbrev pub invariant-loop-i : goal.invariant-loop-i
invariant-loop-i l = SameSoFar (λ (xs : List Id). unplaced_ids (ids_tree xs)) l.a l.b l.i
