-- Lists of arguments, as they grow.
use Rattle.std.proofs.Common.{◌≡◌, List, [], ◌∷◌, ◌++◌, refl, sym, ap, ◌∙◌}
use Rattle.lam_syntax.specs.declared.Expr.{Expr}
use Rattle.lam_syntax.specs.Tree.{ExprList, no_exprs, exprs, expr_tree, exprs_tree}

-- the expressions of a list and those of another behind them
abbrev pub joined : ExprList → ExprList → ExprList
joined no_exprs more = more
joined (exprs e es) more = exprs e (joined es more)

pub joined_none : (es : ExprList) → joined es no_exprs ≡ es
joined_none no_exprs = refl
joined_none (exprs e es) = ap (exprs e) (joined_none es)

one_more : (xs : List Expr) (x : Expr) (os : ExprList) → joined (exprs_tree xs) (exprs (expr_tree x) os) ≡ joined (exprs_tree (xs ++ x ∷ [])) os
one_more [] x os = refl
one_more (y ∷ xs) x os = ap (exprs (expr_tree y)) (one_more xs x os)

pub more_exprs : (xs ys : List Expr) (x : Expr) → ys ≡ xs ++ x ∷ [] → (os : ExprList) → joined (exprs_tree xs) (exprs (expr_tree x) os) ≡ joined (exprs_tree ys) os
more_exprs xs ys x e os = one_more xs x os ∙ ap (λ (z : List Expr). joined (exprs_tree z) os) (sym e)

pub first_exprs : (xs ys : List Expr) (x : Expr) → xs ≡ [] → ys ≡ xs ++ x ∷ [] → (os : ExprList) → exprs (expr_tree x) os ≡ joined (exprs_tree ys) os
first_exprs xs ys x n e os = ap (λ (z : List Expr). joined (exprs_tree z) (exprs (expr_tree x) os)) (sym n) ∙ more_exprs xs ys x e os
