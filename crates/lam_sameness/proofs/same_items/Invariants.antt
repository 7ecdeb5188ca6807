use Rattle.std.proofs.Common.{List}
use Rattle.lam_syntax.specs.declared.Item.{Item}
use Rattle.lam_syntax.specs.Tree.{items_tree}
use Rattle.lam_syntax.specs.Unplaced.{unplaced}
use Rattle.lam_syntax.proofs.Lists.{SameSoFar}
use Rattle.lam_sameness.proofs.same_items.Given as goal

abbrev pub invariant-loop-i : goal.invariant-loop-i
invariant-loop-i l = SameSoFar (λ (xs : List Item). unplaced (items_tree xs)) l.a l.b l.i
