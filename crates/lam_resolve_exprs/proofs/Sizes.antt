-- How large expressions are, so that each call of a recursion goes down.
use Rattle.std.proofs.Common.{ℕ, ◌+◌}
use Rattle.lam_syntax.specs.Tree.{ExprTree, expr_node, ExprForm, binary_expr, unary_expr, field_expr, element_expr, call_expr, new_array_expr, label_expr, spawn_expr, ExprList, no_exprs, exprs}

abbrev mutual
  pub expr_size : ExprTree → ℕ
  expr_size (expr_node at form) = 2 + form_size form

  pub form_size : ExprForm → ℕ
  form_size (binary_expr op l r) = expr_size l + expr_size r
  form_size (unary_expr op e) = expr_size e
  form_size (field_expr e f) = expr_size e
  form_size (element_expr e i) = expr_size e + expr_size i
  form_size (call_expr f args) = args_size args
  form_size (new_array_expr t n) = expr_size n
  form_size (label_expr s i) = args_size s + args_size i
  form_size (spawn_expr c f args) = expr_size c + args_size args
  form_size _ = 0

  pub args_size : ExprList → ℕ
  args_size no_exprs = 0
  args_size (exprs e es) = 1 + expr_size e + args_size es
