-- The children that a node keeps in a vector are those of the vector's list of items.
use Rattle.std.proofs.Common.{◌≡◌, Vec, Box, Global, Option, Some, None, refl, ap, ◌∙◌}
use mathlib.Core.Former.{Count}
use Rattle.lam_syntax.specs.declared.Id.{Id}
use Rattle.lam_syntax.specs.declared.Expr.{Expr}
use Rattle.lam_syntax.specs.declared.ExprKind.{ExprKind, Call, Call', LabelOf, LabelOf', Spawn, Spawn', Row_of-Expr, end_of-Expr, more_of-Expr, items-the_row-Expr, items_hidden-the_row-Expr-0}
use Rattle.lam_syntax.specs.declared.Stmt.{Stmt}
use Rattle.lam_syntax.specs.declared.StmtKind.{StmtKind, If, If', While, While', Sync, Sync', Region, Region', Row_of-Stmt, end_of-Stmt, more_of-Stmt, Some', items-the_row-Stmt, items_hidden-the_row-Stmt-0}
use Rattle.lam_syntax.specs.Tree.{exprs, call_expr, label_expr, spawn_expr, expr_row, exprs_tree, expr_tree, expr_form, id_tree, ids_tree, stmt_node, expr_node, stmts, no_else, else_block, if_stmt, while_stmt, sync_stmt, region_stmt, stmt_row, stmts_tree, stmt_form, else_tree}

expr_rows : (n : _) (r : Row_of-Expr n) → expr_row r ≡ exprs_tree (items-the_row-Expr n r)
expr_rows n end_of-Expr = refl
expr_rows n (more_of-Expr at k rest) = ap (exprs (expr_node at (expr_form k))) (expr_rows _ rest)

stmt_rows : (n : _) (r : Row_of-Stmt n) → stmt_row r ≡ stmts_tree (items-the_row-Stmt n r)
stmt_rows n end_of-Stmt = refl
stmt_rows n (more_of-Stmt at k rest) = ap (stmts (stmt_node at (stmt_form k))) (stmt_rows _ rest)

-- the first row of expressions of a node, and the second
abbrev args_of : ExprKind → (n : Count) × Row_of-Expr n
args_of (Call' f shape row) = (_, row)
args_of (LabelOf' shape1 row shape2 row2) = (_, row)
args_of (Spawn' p at k f shape row) = (_, row)
args_of _ = (_, end_of-Expr)

abbrev more_args_of : ExprKind → (n : Count) × Row_of-Expr n
more_args_of (LabelOf' shape1 row shape2 row2) = (_, row2)
more_args_of _ = (_, end_of-Expr)

-- the first row of statements of a node, and the second
abbrev body_of : StmtKind → (n : Count) × Row_of-Stmt n
body_of (If' e shape row other) = (_, row)
body_of (While' e shape row) = (_, row)
body_of (Sync' e shape row) = (_, row)
body_of (Region' l c xs shape row x shape2 row2) = (_, row)
body_of _ = (_, end_of-Stmt)

abbrev second_of : StmtKind → (n : Count) × Row_of-Stmt n
second_of (If' e shape row (Some' s row2)) = (_, row2)
second_of (Region' l c xs shape row x shape2 row2) = (_, row2)
second_of _ = (_, end_of-Stmt)

expr_row_is : (v : Vec Expr Global) (r : (n : Count) × Row_of-Expr n) → items-the_row-Expr r.0 r.1 ≡ v.items → expr_row r.1 ≡ exprs_tree v.items
expr_row_is v r e = expr_rows r.0 r.1 ∙ ap exprs_tree e

stmt_row_is : (b : Vec Stmt Global) (r : (n : Count) × Row_of-Stmt n) → items-the_row-Stmt r.0 r.1 ≡ b.items → stmt_row r.1 ≡ stmts_tree b.items
stmt_row_is b r e = stmt_rows r.0 r.1 ∙ ap stmts_tree e

pub call_row : (f : Id) (args : Vec Expr Global) → expr_form (Call f args) ≡ call_expr (id_tree f) (exprs_tree args.items)
call_row f args =
    ap (call_expr (id_tree f)) (expr_row_is args (args_of (Call f args)) (items_hidden-the_row-Expr-0 args))

pub label_row : (s i : Vec Expr Global) → expr_form (LabelOf s i) ≡ label_expr (exprs_tree s.items) (exprs_tree i.items)
label_row s i =
    let k = LabelOf s i in
    ap (λ a. label_expr a (expr_row (more_args_of k).1)) (expr_row_is s (args_of k) (items_hidden-the_row-Expr-0 s)) ∙
    ap (label_expr (exprs_tree s.items)) (expr_row_is i (more_args_of k) (items_hidden-the_row-Expr-0 i))

pub spawn_row : (c : Box Expr Global) (f : Box Id Global) (args : Vec Expr Global) → expr_form (Spawn c f args) ≡ spawn_expr (expr_tree c.value) (id_tree f.value) (exprs_tree args.items)
spawn_row c f args =
    ap (spawn_expr (expr_tree c.value) (id_tree f.value)) (expr_row_is args (args_of (Spawn c f args)) (items_hidden-the_row-Expr-0 args))

pub while_row : (e : Expr) (body : Vec Stmt Global) → stmt_form (While e body) ≡ while_stmt (expr_tree e) (stmts_tree body.items)
while_row e body =
    ap (while_stmt (expr_tree e)) (stmt_row_is body (body_of (While e body)) (items_hidden-the_row-Stmt-0 body))

pub sync_row : (e : Expr) (body : Vec Stmt Global) → stmt_form (Sync e body) ≡ sync_stmt (expr_tree e) (stmts_tree body.items)
sync_row e body =
    ap (sync_stmt (expr_tree e)) (stmt_row_is body (body_of (Sync e body)) (items_hidden-the_row-Stmt-0 body))

pub if_row : (e : Expr) (body : Vec Stmt Global) (other : Option (Vec Stmt Global)) → stmt_form (If e body other) ≡ if_stmt (expr_tree e) (stmts_tree body.items) (else_tree other)
if_row e body None =
    ap (λ b. if_stmt (expr_tree e) b no_else) (stmt_row_is body (body_of (If e body None)) (items_hidden-the_row-Stmt-0 body))
if_row e body (Some other) =
    let k = If e body (Some other) in
    ap (λ b. if_stmt (expr_tree e) b (else_block (stmt_row (second_of k).1))) (stmt_row_is body (body_of k) (items_hidden-the_row-Stmt-0 body)) ∙
    ap (λ b. if_stmt (expr_tree e) (stmts_tree body.items) (else_block b)) (stmt_row_is other (second_of k) (items_hidden-the_row-Stmt-0 other))

pub region_row : (l k : Box Expr Global) (xs : Vec Id Global) (body : Vec Stmt Global) (x : Id) (handler : Vec Stmt Global) →
    stmt_form (Region l k xs body x handler) ≡ region_stmt (expr_tree l.value) (expr_tree k.value) (ids_tree xs.items) (stmts_tree body.items) (id_tree x) (stmts_tree handler.items)
region_row l k xs body x handler =
    let r = Region l k xs body x handler in
    ap (λ b. region_stmt (expr_tree l.value) (expr_tree k.value) (ids_tree xs.items) b (id_tree x) (stmt_row (second_of r).1)) (stmt_row_is body (body_of r) (items_hidden-the_row-Stmt-0 body)) ∙
    ap (λ b. region_stmt (expr_tree l.value) (expr_tree k.value) (ids_tree xs.items) (stmts_tree body.items) (id_tree x) b) (stmt_row_is handler (second_of r) (items_hidden-the_row-Stmt-0 handler))
