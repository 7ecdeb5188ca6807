-- The children that a node keeps in a vector are those of the vector's list of items.
use Rattle.std.proofs.Common.{◌≡◌, ℕ, Vec, Box, Global, Option, Some, None, refl, ap, ◌∙◌}
use mathlib.Core.Former.{Count}
use Rattle.lam_builtins.specs.declared.Builtin.{Builtin}
use Rattle.lam_resolve_tree.specs.declared.ValueType.{ValueType}
use Rattle.lam_resolve_tree.specs.declared.Expr.{Expr, Call, Call', BuiltinCall, BuiltinCall', LabelOf, LabelOf', Spawn, Spawn', Row_of-Expr, end_of-Expr, more_of-Expr, items-the_row-Expr, items_hidden-the_row-Expr-0}
use Rattle.lam_resolve_tree.specs.declared.Stmt.{Stmt, If, If', While, While', Sync, Sync', Region, Region', Row_of-Stmt, end_of-Stmt, more_of-Stmt, Some', items-the_row-Stmt, items_hidden-the_row-Stmt-0}
use Rattle.lam_resolve_tree.specs.Tree.{args_more, call_of, builtin_of, label_of, spawn_of, option_type_tree, types_tree, expr_tree, expr_row, exprs_tree, block_more, if_block, while_block, sync_block, region_block, no_other, other_block, stmt_tree, stmt_row, stmts_tree, else_tree}

expr_rows : (n : _) (r : Row_of-Expr n) → expr_row r ≡ exprs_tree (items-the_row-Expr n r)
expr_rows n end_of-Expr = refl
expr_rows n (more_of-Expr e rest) = ap (args_more (expr_tree e)) (expr_rows _ rest)

stmt_rows : (n : _) (r : Row_of-Stmt n) → stmt_row r ≡ stmts_tree (items-the_row-Stmt n r)
stmt_rows n end_of-Stmt = refl
stmt_rows n (more_of-Stmt s rest) = ap (block_more (stmt_tree s)) (stmt_rows _ rest)

-- the first row of expressions of a node, and the second
abbrev args_of : Expr → (n : Count) × Row_of-Expr n
args_of (Call' f shape row) = (_, row)
args_of (BuiltinCall' b shape row t) = (_, row)
args_of (LabelOf' shape1 row shape2 row2) = (_, row)
args_of (Spawn' p e f shape row) = (_, row)
args_of _ = (_, end_of-Expr)

abbrev more_args_of : Expr → (n : Count) × Row_of-Expr n
more_args_of (LabelOf' shape1 row shape2 row2) = (_, row2)
more_args_of _ = (_, end_of-Expr)

-- the first row of statements of a node, and the second
abbrev body_of : Stmt → (n : Count) × Row_of-Stmt n
body_of (If' e shape row other) = (_, row)
body_of (While' e shape row) = (_, row)
body_of (Sync' n e shape row) = (_, row)
body_of (Region' n l c xs ts shape row slot shape2 row2) = (_, row)
body_of _ = (_, end_of-Stmt)

abbrev second_of : Stmt → (n : Count) × Row_of-Stmt n
second_of (If' e shape row (Some' s row2)) = (_, row2)
second_of (Region' n l c xs ts shape row slot shape2 row2) = (_, row2)
second_of _ = (_, end_of-Stmt)

expr_row_is : (v : Vec Expr Global) (r : (n : Count) × Row_of-Expr n) → items-the_row-Expr r.0 r.1 ≡ v.items → expr_row r.1 ≡ exprs_tree v.items
expr_row_is v r e = expr_rows r.0 r.1 ∙ ap exprs_tree e

stmt_row_is : (b : Vec Stmt Global) (r : (n : Count) × Row_of-Stmt n) → items-the_row-Stmt r.0 r.1 ≡ b.items → stmt_row r.1 ≡ stmts_tree b.items
stmt_row_is b r e = stmt_rows r.0 r.1 ∙ ap stmts_tree e

pub call_row : (f : ℕ) (args : Vec Expr Global) → expr_tree (Call f args) ≡ call_of f (exprs_tree args.items)
call_row f args = ap (call_of f) (expr_row_is args (args_of (Call f args)) (items_hidden-the_row-Expr-0 args))

pub builtin_row : (b : Builtin) (args : Vec Expr Global) (t : Option ValueType) → expr_tree (BuiltinCall b args t) ≡ builtin_of b (exprs_tree args.items) (option_type_tree t)
builtin_row b args t =
    ap (λ a. builtin_of b a (option_type_tree t)) (expr_row_is args (args_of (BuiltinCall b args t)) (items_hidden-the_row-Expr-0 args))

pub label_row : (s i : Vec Expr Global) → expr_tree (LabelOf s i) ≡ label_of (exprs_tree s.items) (exprs_tree i.items)
label_row s i =
    let k = LabelOf s i in
    ap (λ a. label_of a (expr_row (more_args_of k).1)) (expr_row_is s (args_of k) (items_hidden-the_row-Expr-0 s)) ∙
    ap (label_of (exprs_tree s.items)) (expr_row_is i (more_args_of k) (items_hidden-the_row-Expr-0 i))

pub spawn_row : (c : Box Expr Global) (f : ℕ) (args : Vec Expr Global) → expr_tree (Spawn c f args) ≡ spawn_of (expr_tree c.value) f (exprs_tree args.items)
spawn_row c f args =
    ap (spawn_of (expr_tree c.value) f) (expr_row_is args (args_of (Spawn c f args)) (items_hidden-the_row-Expr-0 args))

pub while_row : (e : Expr) (body : Vec Stmt Global) → stmt_tree (While e body) ≡ while_block (expr_tree e) (stmts_tree body.items)
while_row e body =
    ap (while_block (expr_tree e)) (stmt_row_is body (body_of (While e body)) (items_hidden-the_row-Stmt-0 body))

pub sync_row : (n : ℕ) (e : Expr) (body : Vec Stmt Global) → stmt_tree (Sync n e body) ≡ sync_block n (expr_tree e) (stmts_tree body.items)
sync_row n e body =
    ap (sync_block n (expr_tree e)) (stmt_row_is body (body_of (Sync n e body)) (items_hidden-the_row-Stmt-0 body))

pub if_row : (e : Expr) (body : Vec Stmt Global) (other : Option (Vec Stmt Global)) → stmt_tree (If e body other) ≡ if_block (expr_tree e) (stmts_tree body.items) (else_tree other)
if_row e body None =
    ap (λ b. if_block (expr_tree e) b no_other) (stmt_row_is body (body_of (If e body None)) (items_hidden-the_row-Stmt-0 body))
if_row e body (Some other) =
    let k = If e body (Some other) in
    ap (λ b. if_block (expr_tree e) b (other_block (stmt_row (second_of k).1))) (stmt_row_is body (body_of k) (items_hidden-the_row-Stmt-0 body)) ∙
    ap (λ b. if_block (expr_tree e) (stmts_tree body.items) (other_block b)) (stmt_row_is other (second_of k) (items_hidden-the_row-Stmt-0 other))

pub region_row : (n : ℕ) (l k : Box Expr Global) (xs : Vec ℕ Global) (ts : Vec ValueType Global) (body : Vec Stmt Global) (slot : ℕ) (handler : Vec Stmt Global) →
    stmt_tree (Region n l k xs ts body slot handler) ≡ region_block n (expr_tree l.value) (expr_tree k.value) xs.items (types_tree ts.items) (stmts_tree body.items) slot (stmts_tree handler.items)
region_row n l k xs ts body slot handler =
    let r = Region n l k xs ts body slot handler in
    let whole = region_block n (expr_tree l.value) (expr_tree k.value) xs.items (types_tree ts.items) in
    ap (λ b. whole b slot (stmt_row (second_of r).1)) (stmt_row_is body (body_of r) (items_hidden-the_row-Stmt-0 body)) ∙
    ap (λ b. whole (stmts_tree body.items) slot b) (stmt_row_is handler (second_of r) (items_hidden-the_row-Stmt-0 handler))
