-- The views of lists, by the views of their items.
use Rattle.std.proofs.Common.{◌≡◌, ℕ, suc, List, [], ◌∷◌, length, refl, ap}
use Rattle.lam_syntax.specs.declared.Id.{Id}
use Rattle.lam_syntax.specs.declared.Var.{Var}
use Rattle.lam_syntax.specs.declared.CapItem.{CapItem}
use Rattle.lam_syntax.specs.declared.Expr.{Expr}
use Rattle.lam_syntax.specs.declared.Stmt.{Stmt}
use Rattle.lam_syntax.specs.declared.Item.{Item}
use Rattle.lam_syntax.specs.Tree.{ExprList, no_exprs, exprs, StmtList, no_stmts, stmts, id_tree, ids_tree, var_tree, vars_tree, cap_tree, caps_tree, expr_tree, exprs_tree, stmt_tree, stmts_tree, item_tree, items_tree}
use Rattle.lam_syntax.specs.Unplaced.{unplaced_id, unplaced_ids, unplaced_var, unplaced_vars, unplaced_cap, unplaced_caps, unplaced_expr, unplaced_exprs, unplaced_stmt, unplaced_stmts, unplaced_item, unplaced}
use Rattle.lam_syntax.proofs.Lists.{IsListView}

abbrev count_exprs : ExprList → ℕ
count_exprs no_exprs = 0
count_exprs (exprs e es) = suc (count_exprs es)

abbrev count_stmts : StmtList → ℕ
count_stmts no_stmts = 0
count_stmts (stmts s ss) = suc (count_stmts ss)

count-unplaced_ids : (xs : List Id) → length (unplaced_ids (ids_tree xs)) ≡ length xs
count-unplaced_ids [] = refl
count-unplaced_ids (x ∷ xs) = ap suc (count-unplaced_ids xs)

heads-unplaced_ids : (x y : Id) (xs ys : List Id) → unplaced_ids (ids_tree (x ∷ xs)) ≡ unplaced_ids (ids_tree (y ∷ ys)) → (unplaced_id (id_tree x)) ≡ (unplaced_id (id_tree y))
heads-unplaced_ids x y xs ys e = cc

tails-unplaced_ids : (x y : Id) (xs ys : List Id) → unplaced_ids (ids_tree (x ∷ xs)) ≡ unplaced_ids (ids_tree (y ∷ ys)) → (unplaced_ids (ids_tree xs)) ≡ (unplaced_ids (ids_tree ys))
tails-unplaced_ids x y xs ys e = cc

joins-unplaced_ids : (x y : Id) (xs ys : List Id) → unplaced_id (id_tree x) ≡ unplaced_id (id_tree y) → unplaced_ids (ids_tree xs) ≡ unplaced_ids (ids_tree ys) → unplaced_ids (ids_tree (x ∷ xs)) ≡ unplaced_ids (ids_tree (y ∷ ys))
joins-unplaced_ids x y xs ys e r = cc

pub unplaced_ids-list : IsListView (λ (x : Id). unplaced_id (id_tree x)) (λ (xs : List Id). unplaced_ids (ids_tree xs))
unplaced_ids-list = record { count = length; counts = count-unplaced_ids; heads = heads-unplaced_ids; tails = tails-unplaced_ids; joins = joins-unplaced_ids }

count-unplaced_vars : (xs : List Var) → length (unplaced_vars (vars_tree xs)) ≡ length xs
count-unplaced_vars [] = refl
count-unplaced_vars (x ∷ xs) = ap suc (count-unplaced_vars xs)

heads-unplaced_vars : (x y : Var) (xs ys : List Var) → unplaced_vars (vars_tree (x ∷ xs)) ≡ unplaced_vars (vars_tree (y ∷ ys)) → (unplaced_var (var_tree x)) ≡ (unplaced_var (var_tree y))
heads-unplaced_vars x y xs ys e = cc

tails-unplaced_vars : (x y : Var) (xs ys : List Var) → unplaced_vars (vars_tree (x ∷ xs)) ≡ unplaced_vars (vars_tree (y ∷ ys)) → (unplaced_vars (vars_tree xs)) ≡ (unplaced_vars (vars_tree ys))
tails-unplaced_vars x y xs ys e = cc

joins-unplaced_vars : (x y : Var) (xs ys : List Var) → unplaced_var (var_tree x) ≡ unplaced_var (var_tree y) → unplaced_vars (vars_tree xs) ≡ unplaced_vars (vars_tree ys) → unplaced_vars (vars_tree (x ∷ xs)) ≡ unplaced_vars (vars_tree (y ∷ ys))
joins-unplaced_vars x y xs ys e r = cc

pub unplaced_vars-list : IsListView (λ (x : Var). unplaced_var (var_tree x)) (λ (xs : List Var). unplaced_vars (vars_tree xs))
unplaced_vars-list = record { count = length; counts = count-unplaced_vars; heads = heads-unplaced_vars; tails = tails-unplaced_vars; joins = joins-unplaced_vars }

count-unplaced_caps : (xs : List CapItem) → length (unplaced_caps (caps_tree xs)) ≡ length xs
count-unplaced_caps [] = refl
count-unplaced_caps (x ∷ xs) = ap suc (count-unplaced_caps xs)

heads-unplaced_caps : (x y : CapItem) (xs ys : List CapItem) → unplaced_caps (caps_tree (x ∷ xs)) ≡ unplaced_caps (caps_tree (y ∷ ys)) → (unplaced_cap (cap_tree x)) ≡ (unplaced_cap (cap_tree y))
heads-unplaced_caps x y xs ys e = cc

tails-unplaced_caps : (x y : CapItem) (xs ys : List CapItem) → unplaced_caps (caps_tree (x ∷ xs)) ≡ unplaced_caps (caps_tree (y ∷ ys)) → (unplaced_caps (caps_tree xs)) ≡ (unplaced_caps (caps_tree ys))
tails-unplaced_caps x y xs ys e = cc

joins-unplaced_caps : (x y : CapItem) (xs ys : List CapItem) → unplaced_cap (cap_tree x) ≡ unplaced_cap (cap_tree y) → unplaced_caps (caps_tree xs) ≡ unplaced_caps (caps_tree ys) → unplaced_caps (caps_tree (x ∷ xs)) ≡ unplaced_caps (caps_tree (y ∷ ys))
joins-unplaced_caps x y xs ys e r = cc

pub unplaced_caps-list : IsListView (λ (x : CapItem). unplaced_cap (cap_tree x)) (λ (xs : List CapItem). unplaced_caps (caps_tree xs))
unplaced_caps-list = record { count = length; counts = count-unplaced_caps; heads = heads-unplaced_caps; tails = tails-unplaced_caps; joins = joins-unplaced_caps }

count-unplaced_items : (xs : List Item) → length (unplaced (items_tree xs)) ≡ length xs
count-unplaced_items [] = refl
count-unplaced_items (x ∷ xs) = ap suc (count-unplaced_items xs)

heads-unplaced_items : (x y : Item) (xs ys : List Item) → unplaced (items_tree (x ∷ xs)) ≡ unplaced (items_tree (y ∷ ys)) → (unplaced_item (item_tree x)) ≡ (unplaced_item (item_tree y))
heads-unplaced_items x y xs ys e = cc

tails-unplaced_items : (x y : Item) (xs ys : List Item) → unplaced (items_tree (x ∷ xs)) ≡ unplaced (items_tree (y ∷ ys)) → (unplaced (items_tree xs)) ≡ (unplaced (items_tree ys))
tails-unplaced_items x y xs ys e = cc

joins-unplaced_items : (x y : Item) (xs ys : List Item) → unplaced_item (item_tree x) ≡ unplaced_item (item_tree y) → unplaced (items_tree xs) ≡ unplaced (items_tree ys) → unplaced (items_tree (x ∷ xs)) ≡ unplaced (items_tree (y ∷ ys))
joins-unplaced_items x y xs ys e r = cc

pub unplaced_items-list : IsListView (λ (x : Item). unplaced_item (item_tree x)) (λ (xs : List Item). unplaced (items_tree xs))
unplaced_items-list = record { count = length; counts = count-unplaced_items; heads = heads-unplaced_items; tails = tails-unplaced_items; joins = joins-unplaced_items }

count-unplaced_exprs : (xs : List Expr) → count_exprs (unplaced_exprs (exprs_tree xs)) ≡ length xs
count-unplaced_exprs [] = refl
count-unplaced_exprs (x ∷ xs) = ap suc (count-unplaced_exprs xs)

heads-unplaced_exprs : (x y : Expr) (xs ys : List Expr) → unplaced_exprs (exprs_tree (x ∷ xs)) ≡ unplaced_exprs (exprs_tree (y ∷ ys)) → (unplaced_expr (expr_tree x)) ≡ (unplaced_expr (expr_tree y))
heads-unplaced_exprs x y xs ys e = cc

tails-unplaced_exprs : (x y : Expr) (xs ys : List Expr) → unplaced_exprs (exprs_tree (x ∷ xs)) ≡ unplaced_exprs (exprs_tree (y ∷ ys)) → (unplaced_exprs (exprs_tree xs)) ≡ (unplaced_exprs (exprs_tree ys))
tails-unplaced_exprs x y xs ys e = cc

joins-unplaced_exprs : (x y : Expr) (xs ys : List Expr) → unplaced_expr (expr_tree x) ≡ unplaced_expr (expr_tree y) → unplaced_exprs (exprs_tree xs) ≡ unplaced_exprs (exprs_tree ys) → unplaced_exprs (exprs_tree (x ∷ xs)) ≡ unplaced_exprs (exprs_tree (y ∷ ys))
joins-unplaced_exprs x y xs ys e r = cc

pub unplaced_exprs-list : IsListView (λ (x : Expr). unplaced_expr (expr_tree x)) (λ (xs : List Expr). unplaced_exprs (exprs_tree xs))
unplaced_exprs-list = record { count = count_exprs; counts = count-unplaced_exprs; heads = heads-unplaced_exprs; tails = tails-unplaced_exprs; joins = joins-unplaced_exprs }

count-unplaced_stmts : (xs : List Stmt) → count_stmts (unplaced_stmts (stmts_tree xs)) ≡ length xs
count-unplaced_stmts [] = refl
count-unplaced_stmts (x ∷ xs) = ap suc (count-unplaced_stmts xs)

heads-unplaced_stmts : (x y : Stmt) (xs ys : List Stmt) → unplaced_stmts (stmts_tree (x ∷ xs)) ≡ unplaced_stmts (stmts_tree (y ∷ ys)) → (unplaced_stmt (stmt_tree x)) ≡ (unplaced_stmt (stmt_tree y))
heads-unplaced_stmts x y xs ys e = cc

tails-unplaced_stmts : (x y : Stmt) (xs ys : List Stmt) → unplaced_stmts (stmts_tree (x ∷ xs)) ≡ unplaced_stmts (stmts_tree (y ∷ ys)) → (unplaced_stmts (stmts_tree xs)) ≡ (unplaced_stmts (stmts_tree ys))
tails-unplaced_stmts x y xs ys e = cc

joins-unplaced_stmts : (x y : Stmt) (xs ys : List Stmt) → unplaced_stmt (stmt_tree x) ≡ unplaced_stmt (stmt_tree y) → unplaced_stmts (stmts_tree xs) ≡ unplaced_stmts (stmts_tree ys) → unplaced_stmts (stmts_tree (x ∷ xs)) ≡ unplaced_stmts (stmts_tree (y ∷ ys))
joins-unplaced_stmts x y xs ys e r = cc

pub unplaced_stmts-list : IsListView (λ (x : Stmt). unplaced_stmt (stmt_tree x)) (λ (xs : List Stmt). unplaced_stmts (stmts_tree xs))
unplaced_stmts-list = record { count = count_stmts; counts = count-unplaced_stmts; heads = heads-unplaced_stmts; tails = tails-unplaced_stmts; joins = joins-unplaced_stmts }
