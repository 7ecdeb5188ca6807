use Rattle.std.proofs.Common.{List}
use Rattle.lam_syntax.specs.declared.CapItem.{CapItem}
use Rattle.lam_syntax.specs.Tree.{caps_tree}
use Rattle.lam_syntax.specs.Unplaced.{unplaced_caps}
use Rattle.lam_syntax.proofs.Lists.{SameSoFar}
use Rattle.lam_sameness.proofs.same_caps.Given as goal

abbrev pub invariant-loop-i : goal.invariant-loop-i
invariant-loop-i l = SameSoFar (λ (xs : List CapItem). unplaced_caps (caps_tree xs)) l.a l.b l.i
