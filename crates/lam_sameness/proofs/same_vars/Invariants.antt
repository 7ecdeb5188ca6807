use Rattle.std.proofs.Common.{List}
use Rattle.lam_syntax.specs.declared.Var.{Var}
use Rattle.lam_syntax.specs.Tree.{vars_tree}
use Rattle.lam_syntax.specs.Unplaced.{unplaced_vars}
use Rattle.lam_syntax.proofs.Lists.{SameSoFar}
use Rattle.lam_sameness.proofs.same_vars.Given as goal

abbrev pub invariant-loop-i : goal.invariant-loop-i
invariant-loop-i l = SameSoFar (λ (xs : List Var). unplaced_vars (vars_tree xs)) l.a l.b l.i
