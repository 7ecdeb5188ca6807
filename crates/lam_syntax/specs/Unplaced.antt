-- A tree without its positions: each is 0.
use Rattle.std.specs.Prelude.{List, [], ◌∷◌, Option, Some, None}
use Rattle.lam_syntax.specs.Tree.{IdTree, TypeTree, type_node, TypeForm, int_type, bool_type, bytes_type, tag_type, label_type, caps_type, file_type, dir_type, pipe_type, thread_type, class_type, array_type, VarTree, CapTree, ExprTree, expr_node, ExprForm, binary_expr, unary_expr, field_expr, element_expr, number_expr, text_expr, bool_expr, null_expr, name_expr, call_expr, new_class_expr, new_array_expr, label_expr, caps_expr, spawn_expr, ExprList, no_exprs, exprs, StmtTree, stmt_node, StmtForm, let_stmt, if_stmt, while_stmt, return_stmt, throw_stmt, sync_stmt, region_stmt, do_stmt, assign_stmt, StmtList, no_stmts, stmts, ElseTree, no_else, else_block, ItemTree, class_item, function_item, ProgramTree}

abbrev pub unplaced_id : IdTree → IdTree
unplaced_id x = record { at = 0; word = x.word }

abbrev pub unplaced_ids : List IdTree → List IdTree
unplaced_ids [] = []
unplaced_ids (x ∷ xs) = unplaced_id x ∷ unplaced_ids xs

abbrev mutual
  pub unplaced_type : TypeTree → TypeTree
  unplaced_type (type_node at form) = type_node 0 (unplaced_type_form form)

  pub unplaced_type_form : TypeForm → TypeForm
  unplaced_type_form int_type = int_type
  unplaced_type_form bool_type = bool_type
  unplaced_type_form bytes_type = bytes_type
  unplaced_type_form tag_type = tag_type
  unplaced_type_form label_type = label_type
  unplaced_type_form caps_type = caps_type
  unplaced_type_form file_type = file_type
  unplaced_type_form dir_type = dir_type
  unplaced_type_form pipe_type = pipe_type
  unplaced_type_form thread_type = thread_type
  unplaced_type_form (class_type x) = class_type x
  unplaced_type_form (array_type t) = array_type (unplaced_type t)

abbrev pub unplaced_option_type : Option TypeTree → Option TypeTree
unplaced_option_type None = None
unplaced_option_type (Some t) = Some (unplaced_type t)

abbrev pub unplaced_var : VarTree → VarTree
unplaced_var v = record { name = unplaced_id v.name; ty = unplaced_type v.ty }

abbrev pub unplaced_vars : List VarTree → List VarTree
unplaced_vars [] = []
unplaced_vars (v ∷ vs) = unplaced_var v ∷ unplaced_vars vs

abbrev pub unplaced_cap : CapTree → CapTree
unplaced_cap c = record { name = unplaced_id c.name; plus = c.plus }

abbrev pub unplaced_caps : List CapTree → List CapTree
unplaced_caps [] = []
unplaced_caps (c ∷ cs) = unplaced_cap c ∷ unplaced_caps cs

abbrev mutual
  pub unplaced_expr : ExprTree → ExprTree
  unplaced_expr (expr_node at form) = expr_node 0 (unplaced_expr_form form)

  pub unplaced_expr_form : ExprForm → ExprForm
  unplaced_expr_form (binary_expr op l r) = binary_expr op (unplaced_expr l) (unplaced_expr r)
  unplaced_expr_form (unary_expr op e) = unary_expr op (unplaced_expr e)
  unplaced_expr_form (field_expr e x) = field_expr (unplaced_expr e) (unplaced_id x)
  unplaced_expr_form (element_expr e i) = element_expr (unplaced_expr e) (unplaced_expr i)
  unplaced_expr_form (number_expr n) = number_expr n
  unplaced_expr_form (text_expr bs) = text_expr bs
  unplaced_expr_form (bool_expr b) = bool_expr b
  unplaced_expr_form null_expr = null_expr
  unplaced_expr_form (name_expr x) = name_expr x
  unplaced_expr_form (call_expr x es) = call_expr (unplaced_id x) (unplaced_exprs es)
  unplaced_expr_form (new_class_expr x) = new_class_expr (unplaced_id x)
  unplaced_expr_form (new_array_expr t e) = new_array_expr (unplaced_type t) (unplaced_expr e)
  unplaced_expr_form (label_expr s i) = label_expr (unplaced_exprs s) (unplaced_exprs i)
  unplaced_expr_form (caps_expr cs) = caps_expr (unplaced_caps cs)
  unplaced_expr_form (spawn_expr c x es) = spawn_expr (unplaced_expr c) (unplaced_id x) (unplaced_exprs es)

  pub unplaced_exprs : ExprList → ExprList
  unplaced_exprs no_exprs = no_exprs
  unplaced_exprs (exprs e es) = exprs (unplaced_expr e) (unplaced_exprs es)

abbrev pub unplaced_option_expr : Option ExprTree → Option ExprTree
unplaced_option_expr None = None
unplaced_option_expr (Some e) = Some (unplaced_expr e)

abbrev mutual
  pub unplaced_stmt : StmtTree → StmtTree
  unplaced_stmt (stmt_node at form) = stmt_node 0 (unplaced_stmt_form form)

  pub unplaced_stmt_form : StmtForm → StmtForm
  unplaced_stmt_form (let_stmt v e) = let_stmt (unplaced_var v) (unplaced_expr e)
  unplaced_stmt_form (if_stmt e b c) = if_stmt (unplaced_expr e) (unplaced_stmts b) (unplaced_else c)
  unplaced_stmt_form (while_stmt e b) = while_stmt (unplaced_expr e) (unplaced_stmts b)
  unplaced_stmt_form (return_stmt e) = return_stmt (unplaced_option_expr e)
  unplaced_stmt_form (throw_stmt e) = throw_stmt (unplaced_expr e)
  unplaced_stmt_form (sync_stmt e b) = sync_stmt (unplaced_expr e) (unplaced_stmts b)
  unplaced_stmt_form (region_stmt l c xs b x d) = region_stmt (unplaced_expr l) (unplaced_expr c) (unplaced_ids xs) (unplaced_stmts b) (unplaced_id x) (unplaced_stmts d)
  unplaced_stmt_form (do_stmt e) = do_stmt (unplaced_expr e)
  unplaced_stmt_form (assign_stmt p e) = assign_stmt (unplaced_expr p) (unplaced_expr e)

  pub unplaced_stmts : StmtList → StmtList
  unplaced_stmts no_stmts = no_stmts
  unplaced_stmts (stmts s ss) = stmts (unplaced_stmt s) (unplaced_stmts ss)

  pub unplaced_else : ElseTree → ElseTree
  unplaced_else no_else = no_else
  unplaced_else (else_block b) = else_block (unplaced_stmts b)

abbrev pub unplaced_item : ItemTree → ItemTree
unplaced_item (class_item c) = class_item (record { at = 0; name = unplaced_id c.name; fields = unplaced_vars c.fields })
unplaced_item (function_item f) = function_item (record { at = 0; name = unplaced_id f.name; params = unplaced_vars f.params; result = unplaced_option_type f.result; body = unplaced_stmts f.body })

abbrev pub unplaced : ProgramTree → ProgramTree
unplaced [] = []
unplaced (i ∷ is) = unplaced_item i ∷ unplaced is
