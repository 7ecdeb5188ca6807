-- The canonical text of a program. Each definition takes what follows: `lay e place ps` are the pieces of an expression
-- and then ps.
use Rattle.std.specs.Prelude.{ℕ, ◌+◌, ◌-◌, nat_lt, Bool, true, false, if◌then◌else◌, List, [], ◌∷◌, Option, Some, None}
use Rattle.lam_lexer.specs.declared.token.TokenKind.{TokenKind}
use Rattle.lam_lexer.specs.declared.token.TokenKind.TheVariants as Kind
use Rattle.lam_operators.specs.declared.BinaryOp.{BinaryOp}
use Rattle.lam_operators.specs.declared.BinaryOp.TheVariants as Op
use Rattle.lam_operators.specs.declared.UnaryOp.{UnaryOp}
use Rattle.lam_operators.specs.declared.UnaryOp.TheVariants as Sign
use Rattle.lam_syntax.specs.Tree.{IdTree, TypeTree, type_node, TypeForm, int_type, bool_type, bytes_type, tag_type, label_type, caps_type, file_type, dir_type, pipe_type, thread_type, class_type, array_type, VarTree, CapTree, ExprTree, expr_node, ExprForm, binary_expr, unary_expr, field_expr, element_expr, number_expr, text_expr, bool_expr, null_expr, name_expr, call_expr, new_class_expr, new_array_expr, label_expr, caps_expr, spawn_expr, ExprList, no_exprs, exprs, StmtTree, stmt_node, StmtForm, let_stmt, if_stmt, while_stmt, return_stmt, throw_stmt, sync_stmt, region_stmt, do_stmt, assign_stmt, StmtList, no_stmts, stmts, ElseTree, no_else, else_block, ClassTree, FunctionTree, ItemTree, class_item, function_item, ProgramTree}
use Rattle.lam_print.specs.Pieces.{Piece, token, blank, line, written}

abbrev pub name : IdTree → List Piece → List Piece
name x ps = token (Kind.Id x.word) ∷ ps

-- ---- how tightly a form binds: an operand, a prefix, and the lines of operators

abbrev pub before_postfix : ℕ
before_postfix = 0

abbrev pub prefixed : ℕ
prefixed = 1

abbrev pub weight : BinaryOp → ℕ
weight op = elim op [ Op.Mul ↦ 2 | Op.Div ↦ 2 | Op.Rem ↦ 2 | Op.Add ↦ 3 | Op.Sub ↦ 3 | Op.And ↦ 5 | Op.Or ↦ 6 | _ ↦ 4 ]

-- the place of any expression
abbrev pub whole : ℕ
whole = 6

-- what may stand on the left of an operator: one of its own line, where that is no comparison
abbrev pub left_place : BinaryOp → ℕ
left_place op = elim op [ Op.Eq ↦ 3 | Op.Ne ↦ 3 | Op.Lt ↦ 3 | Op.Le ↦ 3 | Op.Gt ↦ 3 | Op.Ge ↦ 3 | o ↦ weight o ]

-- on its right: what binds more tightly
abbrev pub right_place : BinaryOp → ℕ
right_place op = weight op - 1

abbrev pub operator : BinaryOp → TokenKind
operator op = elim op [
  | Op.Or ↦ Kind.Or
  | Op.And ↦ Kind.And
  | Op.Eq ↦ Kind.Equal
  | Op.Ne ↦ Kind.NotEqual
  | Op.Lt ↦ Kind.Less
  | Op.Le ↦ Kind.LessEqual
  | Op.Gt ↦ Kind.Greater
  | Op.Ge ↦ Kind.GreaterEqual
  | Op.Add ↦ Kind.Plus
  | Op.Sub ↦ Kind.Minus
  | Op.Mul ↦ Kind.Star
  | Op.Div ↦ Kind.Slash
  | Op.Rem ↦ Kind.Percent
]

abbrev pub sign : UnaryOp → TokenKind
sign op = elim op [ Sign.Not ↦ Kind.Not | Sign.Neg ↦ Kind.Minus ]

abbrev pub opened : Bool → List Piece → List Piece
opened b ps = if b then (token Kind.ParenOpen ∷ ps) else ps

abbrev pub closed : Bool → List Piece → List Piece
closed b ps = if b then (token Kind.ParenClose ∷ ps) else ps

-- parentheses, where what binds so stands at a place for what binds more tightly
abbrev pub grouped : (binds place : ℕ) → (List Piece → List Piece) → List Piece → List Piece
grouped binds place inside ps = opened (nat_lt place binds) (inside (closed (nat_lt place binds) ps))

-- a comma before all but the first
abbrev pub comma : (later : Bool) → List Piece → List Piece
comma later ps = if later then (token Kind.Comma ∷ blank ∷ ps) else ps

-- a blank before the first, and a comma and a blank before the others
abbrev pub spaced : (later : Bool) → List Piece → List Piece
spaced later ps = if later then (token Kind.Comma ∷ blank ∷ ps) else (blank ∷ ps)

-- ---- types

abbrev pub lay_type_form : TypeForm → List Piece → List Piece
lay_type_form int_type ps = token Kind.Int ∷ ps
lay_type_form bool_type ps = token Kind.Bool ∷ ps
lay_type_form bytes_type ps = token Kind.Bytes ∷ ps
lay_type_form tag_type ps = token Kind.Tag ∷ ps
lay_type_form label_type ps = token Kind.Label ∷ ps
lay_type_form caps_type ps = token Kind.Caps ∷ ps
lay_type_form file_type ps = token Kind.File ∷ ps
lay_type_form dir_type ps = token Kind.Dir ∷ ps
lay_type_form pipe_type ps = token Kind.Pipe ∷ ps
lay_type_form thread_type ps = token Kind.Thread ∷ ps
lay_type_form (class_type x) ps = token (Kind.Id x) ∷ ps
lay_type_form (array_type (type_node at form)) ps = token Kind.BracketOpen ∷ lay_type_form form (token Kind.BracketClose ∷ ps)

abbrev pub lay_type : TypeTree → List Piece → List Piece
lay_type (type_node at form) ps = lay_type_form form ps

-- a name, a colon and a type
abbrev pub lay_var : VarTree → List Piece → List Piece
lay_var v ps = name v.name (token Kind.Colon ∷ blank ∷ lay_type v.ty ps)

-- ---- lists with commas

abbrev pub lay_names : (later : Bool) → List IdTree → List Piece → List Piece
lay_names later [] ps = ps
lay_names later (x ∷ xs) ps = comma later (name x (lay_names true xs ps))

abbrev pub lay_vars : (later : Bool) → List VarTree → List Piece → List Piece
lay_vars later [] ps = ps
lay_vars later (v ∷ vs) ps = comma later (lay_var v (lay_vars true vs ps))

abbrev pub lay_cap : CapTree → List Piece → List Piece
lay_cap c ps = name c.name (token (if c.plus then Kind.Plus else Kind.Minus) ∷ ps)

abbrev pub lay_caps : (later : Bool) → List CapTree → List Piece → List Piece
lay_caps later [] ps = ps
lay_caps later (c ∷ cs) ps = comma later (lay_cap c (lay_caps true cs ps))

-- ---- expressions

abbrev pub truth : Bool → TokenKind
truth b = if b then Kind.True else Kind.False

abbrev mutual
  pub lay_form : ExprForm → ℕ → List Piece → List Piece
  lay_form (binary_expr op l r) place ps =
      grouped (weight op) place (λ ps. lay l (left_place op) (blank ∷ token (operator op) ∷ blank ∷ lay r (right_place op) ps)) ps
  lay_form (unary_expr op e) place ps = grouped prefixed place (λ ps. token (sign op) ∷ lay e prefixed ps) ps
  lay_form (field_expr e x) place ps = lay e before_postfix (token Kind.Dot ∷ name x ps)
  lay_form (element_expr e i) place ps = lay e before_postfix (token Kind.BracketOpen ∷ lay i whole (token Kind.BracketClose ∷ ps))
  lay_form (number_expr n) place ps = token (Kind.Number n) ∷ ps
  lay_form (text_expr bytes) place ps = token (Kind.Text bytes) ∷ ps
  lay_form (bool_expr b) place ps = token (truth b) ∷ ps
  lay_form null_expr place ps = token Kind.Null ∷ ps
  lay_form (name_expr x) place ps = token (Kind.Id x) ∷ ps
  lay_form (call_expr f es) place ps = name f (token Kind.ParenOpen ∷ lay_args false es (token Kind.ParenClose ∷ ps))
  lay_form (new_class_expr c) place ps = token Kind.New ∷ blank ∷ name c (token Kind.ParenOpen ∷ token Kind.ParenClose ∷ ps)
  lay_form (new_array_expr t e) place ps = token Kind.New ∷ blank ∷ token Kind.BracketOpen ∷ lay_type t (token Kind.BracketClose ∷ token Kind.ParenOpen ∷ lay e whole (token Kind.ParenClose ∷ ps))
  lay_form (label_expr s i) place ps = token Kind.Label ∷ token Kind.BraceOpen ∷ lay_args false s (token Kind.Semicolon ∷ lay_tags false i (token Kind.BraceClose ∷ ps))
  lay_form (caps_expr cs) place ps = token Kind.Caps ∷ token Kind.BraceOpen ∷ lay_caps false cs (token Kind.BraceClose ∷ ps)
  lay_form (spawn_expr c f es) place ps = token Kind.Spawn ∷ token Kind.ParenOpen ∷ lay c whole (token Kind.ParenClose ∷ blank ∷ name f (token Kind.ParenOpen ∷ lay_args false es (token Kind.ParenClose ∷ ps)))

  pub lay : ExprTree → ℕ → List Piece → List Piece
  lay (expr_node at form) place ps = lay_form form place ps

  pub lay_args : (later : Bool) → ExprList → List Piece → List Piece
  lay_args later no_exprs ps = ps
  lay_args later (exprs e es) ps = comma later (lay e whole (lay_args true es ps))

  -- a blank before the first
  pub lay_tags : (later : Bool) → ExprList → List Piece → List Piece
  lay_tags later no_exprs ps = ps
  lay_tags later (exprs e es) ps = spaced later (lay e whole (lay_tags true es ps))

abbrev pub lay_value : Option ExprTree → List Piece → List Piece
lay_value None ps = ps
lay_value (Some e) ps = lay e whole ps

-- ---- statements, in so many open blocks

abbrev mutual
  pub lay_stmt_form : StmtForm → ℕ → List Piece → List Piece
  lay_stmt_form (let_stmt v e) n ps = token Kind.Let ∷ blank ∷ lay_var v (blank ∷ token Kind.Assign ∷ blank ∷ lay e whole (token Kind.Semicolon ∷ ps))
  lay_stmt_form (if_stmt e body other) n ps = token Kind.If ∷ blank ∷ token Kind.ParenOpen ∷ lay e whole (token Kind.ParenClose ∷ blank ∷ lay_block body n (lay_else other n ps))
  lay_stmt_form (while_stmt e body) n ps = token Kind.While ∷ blank ∷ token Kind.ParenOpen ∷ lay e whole (token Kind.ParenClose ∷ blank ∷ lay_block body n ps)
  lay_stmt_form (return_stmt e) n ps = token Kind.Return ∷ blank ∷ lay_value e (token Kind.Semicolon ∷ ps)
  lay_stmt_form (throw_stmt e) n ps = token Kind.Throw ∷ blank ∷ lay e whole (token Kind.Semicolon ∷ ps)
  lay_stmt_form (sync_stmt e body) n ps = token Kind.Sync ∷ blank ∷ token Kind.ParenOpen ∷ lay e whole (token Kind.ParenClose ∷ blank ∷ lay_block body n ps)
  lay_stmt_form (region_stmt l c xs body x handler) n ps =
      token Kind.Region ∷ blank ∷ token Kind.ParenOpen ∷ lay l whole (token Kind.Comma ∷ blank ∷ lay c whole (token Kind.ParenClose ∷ blank ∷ token Kind.BracketOpen ∷ lay_names false xs (token Kind.BracketClose ∷ blank ∷ lay_block body n (blank ∷ token Kind.Catch ∷ blank ∷ token Kind.ParenOpen ∷ name x (token Kind.ParenClose ∷ blank ∷ lay_block handler n ps)))))
  lay_stmt_form (do_stmt e) n ps = lay e whole (token Kind.Semicolon ∷ ps)
  lay_stmt_form (assign_stmt p e) n ps = lay p whole (blank ∷ token Kind.Assign ∷ blank ∷ lay e whole (token Kind.Semicolon ∷ ps))

  pub lay_stmt : StmtTree → ℕ → List Piece → List Piece
  lay_stmt (stmt_node at form) n ps = lay_stmt_form form n ps

  -- braces, with each statement on a line of its own one step further in
  pub lay_block : StmtList → ℕ → List Piece → List Piece
  lay_block no_stmts n ps = token Kind.BraceOpen ∷ blank ∷ token Kind.BraceClose ∷ ps
  lay_block (stmts s ss) n ps = token Kind.BraceOpen ∷ line (n + 1) ∷ lay_stmt s (n + 1) (lay_stmts ss (n + 1) (line n ∷ token Kind.BraceClose ∷ ps))

  -- each on a new line
  pub lay_stmts : StmtList → ℕ → List Piece → List Piece
  lay_stmts no_stmts n ps = ps
  lay_stmts (stmts s ss) n ps = line n ∷ lay_stmt s n (lay_stmts ss n ps)

  pub lay_else : ElseTree → ℕ → List Piece → List Piece
  lay_else no_else n ps = ps
  lay_else (else_block body) n ps = blank ∷ token Kind.Else ∷ blank ∷ lay_block body n ps

-- ---- items

-- each field on a new line
abbrev pub lay_fields : List VarTree → List Piece → List Piece
lay_fields [] ps = ps
lay_fields (v ∷ vs) ps = line 1 ∷ lay_var v (token Kind.Semicolon ∷ lay_fields vs ps)

abbrev pub lay_class_body : List VarTree → List Piece → List Piece
lay_class_body [] ps = blank ∷ token Kind.BraceClose ∷ ps
lay_class_body (v ∷ vs) ps = lay_fields (v ∷ vs) (line 0 ∷ token Kind.BraceClose ∷ ps)

abbrev pub lay_result : Option TypeTree → List Piece → List Piece
lay_result None ps = ps
lay_result (Some t) ps = token Kind.Colon ∷ blank ∷ lay_type t ps

abbrev pub lay_class : ClassTree → List Piece → List Piece
lay_class c ps = token Kind.Class ∷ blank ∷ name c.name (blank ∷ token Kind.BraceOpen ∷ lay_class_body c.fields ps)

abbrev pub lay_function : FunctionTree → List Piece → List Piece
lay_function f ps =
    token Kind.Fn ∷ blank ∷ name f.name (token Kind.ParenOpen ∷ lay_vars false f.params (token Kind.ParenClose ∷ lay_result f.result (blank ∷ lay_block f.body 0 ps)))

abbrev pub lay_item : ItemTree → List Piece → List Piece
lay_item (class_item c) ps = lay_class c ps
lay_item (function_item f) ps = lay_function f ps

-- an empty line before all but the first
abbrev pub gap : (later : Bool) → List Piece → List Piece
gap later ps = if later then (line 0 ∷ ps) else ps

abbrev pub lay_items : (later : Bool) → ProgramTree → List Piece → List Piece
lay_items later [] ps = ps
lay_items later (i ∷ is) ps = gap later (lay_item i (line 0 ∷ lay_items true is ps))

-- the canonical pieces of a program, and its canonical text
abbrev pub pieces : ProgramTree → List Piece
pieces p = lay_items false p []

abbrev pub canon : ProgramTree → List ℕ
canon p = written (pieces p)
