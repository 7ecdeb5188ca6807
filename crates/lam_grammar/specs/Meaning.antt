-- What each rule of the table means: trees without their places in memory.
use Rattle.std.specs.Prelude.{ℕ, List, [], ◌∷◌, Option, Some, None, Bool, true, false}
use Rattle.lam_operators.specs.declared.BinaryOp.{BinaryOp}
use Rattle.lam_operators.specs.declared.BinaryOp.TheVariants as op
use Rattle.lam_operators.specs.declared.UnaryOp.{UnaryOp}
use Rattle.lam_operators.specs.declared.UnaryOp.TheVariants as sign
use Rattle.lam_syntax.specs.Tree.{IdTree, TypeTree, TypeForm, VarTree, CapTree, ExprTree, ExprForm, ExprList, StmtTree, StmtList, ElseTree, ItemTree, type_node, int_type, bool_type, bytes_type, tag_type, label_type, caps_type, file_type, dir_type, pipe_type, thread_type, class_type, array_type, expr_node, binary_expr, unary_expr, field_expr, element_expr, number_expr, text_expr, bool_expr, null_expr, name_expr, call_expr, new_class_expr, new_array_expr, label_expr, caps_expr, spawn_expr, no_exprs, exprs, stmt_node, let_stmt, if_stmt, while_stmt, return_stmt, throw_stmt, sync_stmt, region_stmt, do_stmt, assign_stmt, no_stmts, no_else, else_block, class_item, function_item}
use Rattle.lam_syntax.specs.Tree.{stmts as stmts_node}
use Rattle.lam_lexer.specs.declared.token.Token.{Token}
use Rattle.lam_lexer.specs.declared.token.TokenKind.{TokenKind}
use Rattle.lam_lexer.specs.declared.token.TokenKind.TheVariants.{Id, Number, Text, Or, And, Equal, NotEqual, Less, LessEqual, Greater, GreaterEqual, Plus, Minus, Star, Slash, Not, True, False, Int, Bool as BoolWord, Bytes, Tag, Label, Caps, File, Dir, Pipe, Thread, Throw, Sync}
use Rattle.lam_grammar.specs.Table.{Rule, items, item, fields, variable, params, params_tail, result_part, typ, block, stmts, stmt, else_part, value_part, assign_part, parens, region_head, captures, names, names_tail, handler, expr, comparison, comparison_tail, unary, post, post_tail, prim, chain, chain_tail, call_part, arguments, args, args_tail, new_part, cap_items, cap_item, cap_tail}

-- operators and the operands right of them, in the order in which they are read
pub data Operations : Type 0 where
  no_more : Operations
  operation : BinaryOp → ExprTree → Operations → Operations

-- postfix parts, in the order in which they are read
pub data Postfixes : Type 0 where
  no_postfix : Postfixes
  member : IdTree → Postfixes → Postfixes
  index : ExprTree → Postfixes → Postfixes

pub data Value : Type 0 where
  nothing : Value
  word : Token → Value
  ids_value : List IdTree → Value
  type_value : TypeTree → Value
  variable_value : VarTree → Value
  variables_value : List VarTree → Value
  -- an expression, and the place of its first token: that of a parenthesis, where it begins with one
  expr_value : (begin : ℕ) → ExprTree → Value
  two_exprs : ExprTree → ExprTree → Value
  exprs_value : ExprList → Value
  form_value : ExprForm → Value
  operations_value : Operations → Value
  postfixes_value : Postfixes → Value
  cap_value : CapTree → Value
  caps_value : List CapTree → Value
  stmt_value : StmtTree → Value
  stmts_value : StmtList → Value
  else_value : ElseTree → Value
  handler_value : IdTree → StmtList → Value
  item_value : ItemTree → Value
  items_value : List ItemTree → Value

-- operators of one level group to the left, and each node begins where its first operand does
abbrev pub combine : ℕ → ExprTree → Operations → ExprTree
combine begin a no_more = a
combine begin a (operation o b more) = combine begin (expr_node begin (binary_expr o a b)) more

abbrev pub extend : ℕ → ExprTree → Postfixes → ExprTree
extend begin a no_postfix = a
extend begin a (member x more) = extend begin (expr_node begin (field_expr a x)) more
extend begin a (index e more) = extend begin (expr_node begin (element_expr a e)) more

abbrev pub binary_op : TokenKind → BinaryOp
binary_op k = elim k [ Or ↦ op.Or | And ↦ op.And | Equal ↦ op.Eq | NotEqual ↦ op.Ne | Less ↦ op.Lt | LessEqual ↦ op.Le | Greater ↦ op.Gt | GreaterEqual ↦ op.Ge | Plus ↦ op.Add | Minus ↦ op.Sub | Star ↦ op.Mul | Slash ↦ op.Div | _ ↦ op.Rem ]

abbrev pub unary_op : TokenKind → UnaryOp
unary_op k = elim k [ Not ↦ sign.Not | _ ↦ sign.Neg ]

abbrev pub spelt : TokenKind → List ℕ
spelt k = elim k [ Id x ↦ x | _ ↦ [] ]

abbrev pub id_of : Token → IdTree
id_of w = record { at = w.at; word = spelt w.kind }

abbrev pub literal_form : TokenKind → ExprForm
literal_form k = elim k [ Number n ↦ number_expr n | Text b ↦ text_expr b | True ↦ bool_expr true | False ↦ bool_expr false | _ ↦ null_expr ]

abbrev pub type_form_of : TokenKind → TypeForm
type_form_of k = elim k [ Int ↦ int_type | BoolWord ↦ bool_type | Bytes ↦ bytes_type | Tag ↦ tag_type | Label ↦ label_type | Caps ↦ caps_type | File ↦ file_type | Dir ↦ dir_type | Pipe ↦ pipe_type | Thread ↦ thread_type | x ↦ class_type (spelt x) ]

abbrev pub is_plus : TokenKind → Bool
is_plus k = elim k [ Plus ↦ true | _ ↦ false ]

-- names, fields and elements may stand before `=`
abbrev pub is_place_form : ExprForm → Bool
is_place_form (name_expr x) = true
is_place_form (field_expr e x) = true
is_place_form (element_expr e i) = true
is_place_form _ = false

abbrev pub is_place : ExprTree → Bool
is_place (expr_node at f) = is_place_form f

abbrev pub is_place_value : Value → Bool
is_place_value (expr_value begin e) = is_place e
is_place_value _ = false

-- only a place is assigned to
abbrev pub permits : Rule → Value → Bool
permits assign_part before = is_place_value before
permits _ before = true

-- ---- what the bodies mean

abbrev pub first : List Value → Value
first (a ∷ _) = a
first [] = nothing

abbrev pub second : List Value → Value
second (a ∷ vs) = first vs
second [] = nothing

abbrev pub optional_type : Value → Option TypeTree
optional_type (type_value t) = Some t
optional_type _ = None

abbrev pub act_items : List Value → Value
act_items (item_value x ∷ items_value xs ∷ []) = items_value (x ∷ xs)
act_items _ = items_value []

abbrev pub act_item : List Value → Value
act_item (word w ∷ word x ∷ word o ∷ variables_value vs ∷ word c ∷ []) = item_value (class_item (record { at = w.at; name = id_of x; fields = vs }))
act_item (word w ∷ word x ∷ word o ∷ variables_value vs ∷ word c ∷ t ∷ stmts_value body ∷ []) = item_value (function_item (record { at = w.at; name = id_of x; params = vs; result = optional_type t; body = body }))
act_item _ = nothing

abbrev pub act_variable : List Value → Value
act_variable (word x ∷ word c ∷ type_value t ∷ []) = variable_value (record { name = id_of x; ty = t })
act_variable _ = nothing

-- fields, and parameters before and after a comma
abbrev pub act_variables : List Value → Value
act_variables (variable_value x ∷ word c ∷ variables_value xs ∷ []) = variables_value (x ∷ xs)
act_variables (variable_value x ∷ variables_value xs ∷ []) = variables_value (x ∷ xs)
act_variables (word c ∷ variable_value x ∷ variables_value xs ∷ []) = variables_value (x ∷ xs)
act_variables _ = variables_value []

abbrev pub act_type : List Value → Value
act_type (word w ∷ []) = type_value (type_node w.at (type_form_of w.kind))
act_type (word w ∷ type_value t ∷ word c ∷ []) = type_value (type_node w.at (array_type t))
act_type _ = nothing

abbrev pub act_stmts : List Value → Value
act_stmts (stmt_value s ∷ stmts_value more ∷ []) = stmts_value (stmts_node s more)
act_stmts _ = stmts_value no_stmts

abbrev pub act_stmt : List Value → Value
act_stmt (word w ∷ variable_value x ∷ word q ∷ expr_value b e ∷ word c ∷ []) = stmt_value (stmt_node w.at (let_stmt x e))
act_stmt (word w ∷ expr_value b e ∷ stmts_value body ∷ else_value other ∷ []) = stmt_value (stmt_node w.at (if_stmt e body other))
act_stmt (word w ∷ expr_value b e ∷ stmts_value body ∷ []) = stmt_value (stmt_node w.at (elim w.kind [ Sync ↦ sync_stmt e body | _ ↦ while_stmt e body ]))
act_stmt (word w ∷ expr_value b e ∷ word c ∷ []) = stmt_value (stmt_node w.at (elim w.kind [ Throw ↦ throw_stmt e | _ ↦ return_stmt (Some e) ]))
act_stmt (word w ∷ nothing ∷ word c ∷ []) = stmt_value (stmt_node w.at (return_stmt None))
act_stmt (word w ∷ two_exprs l k ∷ ids_value xs ∷ stmts_value body ∷ handler_value x caught ∷ []) = stmt_value (stmt_node w.at (region_stmt l k xs body x caught))
act_stmt (expr_value b e ∷ nothing ∷ word c ∷ []) = stmt_value (stmt_node b (do_stmt e))
act_stmt (expr_value b e ∷ expr_value d v ∷ word c ∷ []) = stmt_value (stmt_node b (assign_stmt e v))
act_stmt _ = nothing

abbrev pub act_else : List Value → Value
act_else (word w ∷ stmts_value body ∷ []) = else_value (else_block body)
act_else _ = else_value no_else

abbrev pub act_parens : List Value → Value
act_parens (word w ∷ expr_value b e ∷ word c ∷ []) = expr_value w.at e
act_parens _ = nothing

abbrev pub act_region_head : List Value → Value
act_region_head (word w ∷ expr_value b l ∷ word q ∷ expr_value d k ∷ word c ∷ []) = two_exprs l k
act_region_head _ = nothing

abbrev pub act_names : List Value → Value
act_names (word x ∷ ids_value xs ∷ []) = ids_value (id_of x ∷ xs)
act_names (word c ∷ word x ∷ ids_value xs ∷ []) = ids_value (id_of x ∷ xs)
act_names _ = ids_value []

abbrev pub act_handler : List Value → Value
act_handler (word w ∷ word o ∷ word x ∷ word c ∷ stmts_value body ∷ []) = handler_value (id_of x) body
act_handler _ = nothing

abbrev pub act_operations : List Value → Value
act_operations (word w ∷ expr_value b e ∷ operations_value more ∷ []) = operations_value (operation (binary_op w.kind) e more)
act_operations (word w ∷ expr_value b e ∷ []) = operations_value (operation (binary_op w.kind) e no_more)
act_operations _ = operations_value no_more

abbrev pub act_chain : List Value → Value
act_chain (expr_value b e ∷ operations_value more ∷ []) = expr_value b (combine b e more)
act_chain _ = nothing

abbrev pub act_unary : List Value → Value
act_unary (word w ∷ expr_value b e ∷ []) = expr_value w.at (expr_node w.at (unary_expr (unary_op w.kind) e))
act_unary vs = first vs

abbrev pub act_post : List Value → Value
act_post (expr_value b e ∷ postfixes_value more ∷ []) = expr_value b (extend b e more)
act_post _ = nothing

abbrev pub act_post_tail : List Value → Value
act_post_tail (word w ∷ word x ∷ postfixes_value more ∷ []) = postfixes_value (member (id_of x) more)
act_post_tail (word w ∷ expr_value b e ∷ word c ∷ postfixes_value more ∷ []) = postfixes_value (index e more)
act_post_tail _ = postfixes_value no_postfix

abbrev pub node_of : Token → ExprForm → Value
node_of w f = expr_value w.at (expr_node w.at f)

abbrev pub act_prim : List Value → Value
act_prim (word w ∷ []) = node_of w (literal_form w.kind)
act_prim (expr_value b e ∷ []) = expr_value b e
act_prim (word w ∷ nothing ∷ []) = node_of w (name_expr (spelt w.kind))
act_prim (word w ∷ exprs_value es ∷ []) = node_of w (call_expr (id_of w) es)
act_prim (word w ∷ form_value f ∷ []) = node_of w f
act_prim (word w ∷ word o ∷ exprs_value s ∷ word q ∷ exprs_value i ∷ word c ∷ []) = node_of w (label_expr s i)
act_prim (word w ∷ word o ∷ caps_value xs ∷ word c ∷ []) = node_of w (caps_expr xs)
act_prim (word w ∷ expr_value b e ∷ word f ∷ exprs_value es ∷ []) = node_of w (spawn_expr e (id_of f) es)
act_prim _ = nothing

abbrev pub act_args : List Value → Value
act_args (expr_value b e ∷ exprs_value more ∷ []) = exprs_value (exprs e more)
act_args (word c ∷ expr_value b e ∷ exprs_value more ∷ []) = exprs_value (exprs e more)
act_args _ = exprs_value no_exprs

abbrev pub act_new : List Value → Value
act_new (word x ∷ word o ∷ word c ∷ []) = form_value (new_class_expr (id_of x))
act_new (word o ∷ type_value t ∷ word c ∷ expr_value b e ∷ []) = form_value (new_array_expr t e)
act_new _ = nothing

abbrev pub act_cap_item : List Value → Value
act_cap_item (word x ∷ word s ∷ []) = cap_value (record { name = id_of x; plus = is_plus s.kind })
act_cap_item _ = nothing

abbrev pub act_caps : List Value → Value
act_caps (cap_value x ∷ caps_value xs ∷ []) = caps_value (x ∷ xs)
act_caps (word c ∷ cap_value x ∷ caps_value xs ∷ []) = caps_value (x ∷ xs)
act_caps _ = caps_value []

-- What each rule means, by what the parts of its body mean.
abbrev pub act : Rule → List Value → Value
act items vs = act_items vs
act item vs = act_item vs
act fields vs = act_variables vs
act variable vs = act_variable vs
act params vs = act_variables vs
act params_tail vs = act_variables vs
act result_part vs = second vs
act typ vs = act_type vs
act block vs = second vs
act stmts vs = act_stmts vs
act stmt vs = act_stmt vs
act else_part vs = act_else vs
act value_part vs = first vs
act assign_part vs = second vs
act parens vs = act_parens vs
act region_head vs = act_region_head vs
act captures vs = second vs
act names vs = act_names vs
act names_tail vs = act_names vs
act handler vs = act_handler vs
act expr vs = first vs
act (chain l) vs = act_chain vs
act (chain_tail l) vs = act_operations vs
act comparison vs = act_chain vs
act comparison_tail vs = act_operations vs
act unary vs = act_unary vs
act post vs = act_post vs
act post_tail vs = act_post_tail vs
act prim vs = act_prim vs
act call_part vs = first vs
act arguments vs = second vs
act args vs = act_args vs
act args_tail vs = act_args vs
act new_part vs = act_new vs
act cap_items vs = act_caps vs
act cap_item vs = act_cap_item vs
act cap_tail vs = act_caps vs
