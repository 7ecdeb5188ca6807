-- How large statements are, so that each call of a recursion goes down.
use Rattle.std.proofs.Common.{◌≡◌, ℕ, zero, suc, ◌+◌, ◌<◌, List, [], ◌∷◌, length, get_or, arith, subst}
use Rattle.lam_syntax.specs.declared.Stmt.{Stmt}
use Rattle.lam_syntax.specs.Tree.{StmtTree, stmt_node, StmtForm, if_stmt, while_stmt, sync_stmt, region_stmt, StmtList, no_stmts, stmts, ElseTree, no_else, else_block, stmt_tree, stmts_tree}

abbrev mutual
  pub stmt_size : StmtTree → ℕ
  stmt_size (stmt_node at form) = 1 + form_size form

  pub form_size : StmtForm → ℕ
  form_size (if_stmt e body other) = 2 + stmts_size body + else_size other
  form_size (while_stmt e body) = 2 + stmts_size body
  form_size (sync_stmt e body) = 2 + stmts_size body
  form_size (region_stmt l k xs body x handler) = 3 + stmts_size body + stmts_size handler
  form_size _ = 0

  pub else_size : ElseTree → ℕ
  else_size no_else = 0
  else_size (else_block body) = 2 + stmts_size body

  pub stmts_size : StmtList → ℕ
  stmts_size no_stmts = 0
  stmts_size (stmts s rest) = 1 + stmt_size s + stmts_size rest

pub item_smaller : (xs : List Stmt) (i : ℕ) (x : Stmt) → i < length xs → x ≡ get_or xs i x → stmt_size (stmt_tree x) < stmts_size (stmts_tree xs)
item_smaller [] i x h e = absurd (omega arith)
item_smaller (y ∷ xs) zero x h e = subst (λ y. stmt_size (stmt_tree x) < stmts_size (stmts_tree (y ∷ xs))) e (omega arith)
item_smaller (y ∷ xs) (suc i) x h e = omega (arith, item_smaller xs i x (omega arith) e)
