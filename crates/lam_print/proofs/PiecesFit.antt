-- The pieces of a program whose names, numbers and texts fit are tokens that fit.
use Rattle.std.proofs.Common.{ℕ, ◌+◌, nat_lt, Bool, true, false, if◌then◌else◌, List, [], ◌∷◌, Option, Some, None}
use Rattle.lam_lexer.specs.declared.token.TokenKind.TheVariants as Kind
use Rattle.lam_operators.specs.declared.BinaryOp.{BinaryOp}
use Rattle.lam_operators.specs.declared.BinaryOp.TheVariants as Op
use Rattle.lam_operators.specs.declared.UnaryOp.{UnaryOp}
use Rattle.lam_operators.specs.declared.UnaryOp.TheVariants as Sign
use Rattle.lam_syntax.specs.Tree.{IdTree, TypeTree, TypeForm, type_node, class_type, array_type, VarTree, CapTree, ExprTree, ExprForm, ExprList, expr_node, binary_expr, unary_expr, field_expr, element_expr, number_expr, text_expr, bool_expr, null_expr, name_expr, call_expr, new_class_expr, new_array_expr, label_expr, caps_expr, spawn_expr, no_exprs, exprs, StmtTree, StmtForm, StmtList, ElseTree, stmt_node, let_stmt, if_stmt, while_stmt, return_stmt, throw_stmt, sync_stmt, region_stmt, do_stmt, assign_stmt, no_stmts, stmts, no_else, else_block, ClassTree, FunctionTree, ItemTree, class_item, function_item, ProgramTree}
use Rattle.lam_print.specs.Law.{Fits, AllFit}
use Rattle.lam_print.specs.Pieces.{Piece, token, blank, line, kinds}
use Rattle.lam_print.specs.Canon.{operator, sign, opened, closed, grouped, weight, before_postfix, prefixed, whole, left_place, right_place, comma, spaced, lay_type_form, lay_type, lay_var, lay_names, lay_vars, lay_cap, lay_caps, truth, lay_form, lay, lay_args, lay_tags, lay_value, lay_stmt_form, lay_stmt, lay_block, lay_stmts, lay_else, lay_fields, lay_class_body, lay_result, lay_class, lay_function, lay_item, gap, lay_items}
use Rattle.lam_print.specs.Fitting.{NamesFit, TypeFormFits, TypeFits, ResultFits, VarFits, VarsFit, CapsFit, FormFits, ExprFits, ExprsFit, ValueFits, StmtFormFits, StmtFits, BlockFits, ElseFits, ClassFits, FunctionFits, ItemFits, FitsTree, PiecesFit}

abbrev Fit : List Piece → Type 0
Fit ps = AllFit (kinds ps)

operator_fits : (op : BinaryOp) → Fits (operator op)
operator_fits Op.Or = tt
operator_fits _ = tt

sign_fits : (op : UnaryOp) → Fits (sign op)
sign_fits Sign.Not = tt
sign_fits Sign.Neg = tt

truth_fits : (b : Bool) → Fits (truth b)
truth_fits true = tt
truth_fits false = tt

opened_fits : (b : Bool) (ps : List Piece) → Fit ps → Fit (opened b ps)
opened_fits true ps h = (tt, h)
opened_fits false ps h = h

closed_fits : (b : Bool) (ps : List Piece) → Fit ps → Fit (closed b ps)
closed_fits true ps h = (tt, h)
closed_fits false ps h = h

grouped_fits : (binds place : ℕ) (inside : List Piece → List Piece) (ps : List Piece) → ((qs : List Piece) → Fit qs → Fit (inside qs)) → Fit ps → Fit (grouped binds place inside ps)
grouped_fits binds place inside ps f h =
    let b = nat_lt place binds in
    opened_fits b (inside (closed b ps)) (f (closed b ps) (closed_fits b ps h))

comma_fits : (later : Bool) (ps : List Piece) → Fit ps → Fit (comma later ps)
comma_fits true ps h = (tt, h)
comma_fits false ps h = h

spaced_fits : (later : Bool) (ps : List Piece) → Fit ps → Fit (spaced later ps)
spaced_fits true ps h = (tt, h)
spaced_fits false ps h = h

gap_fits : (later : Bool) (ps : List Piece) → Fit ps → Fit (gap later ps)
gap_fits true ps h = h
gap_fits false ps h = h

type_form_fits : (t : TypeForm) (ps : List Piece) → TypeFormFits t → Fit ps → Fit (lay_type_form t ps)
type_form_fits (class_type x) ps f h = (f, h)
type_form_fits (array_type (type_node at form)) ps f h = (tt, type_form_fits form (token Kind.BracketClose ∷ ps) f (tt, h))
type_form_fits _ ps f h = (tt, h)

type_fits : (t : TypeTree) (ps : List Piece) → TypeFits t → Fit ps → Fit (lay_type t ps)
type_fits (type_node at form) ps f h = type_form_fits form ps f h

var_fits : (v : VarTree) (ps : List Piece) → VarFits v → Fit ps → Fit (lay_var v ps)
var_fits v ps f h = (f.0, (tt, type_fits v.ty ps f.1 h))

names_fit : (later : Bool) (xs : List IdTree) (ps : List Piece) → NamesFit xs → Fit ps → Fit (lay_names later xs ps)
names_fit later [] ps f h = h
names_fit later (x ∷ xs) ps f h = comma_fits later (token (Kind.Id x.word) ∷ lay_names true xs ps) (f.0, names_fit true xs ps f.1 h)

vars_fit : (later : Bool) (vs : List VarTree) (ps : List Piece) → VarsFit vs → Fit ps → Fit (lay_vars later vs ps)
vars_fit later [] ps f h = h
vars_fit later (v ∷ vs) ps f h = comma_fits later (lay_var v (lay_vars true vs ps)) (var_fits v (lay_vars true vs ps) f.0 (vars_fit true vs ps f.1 h))

mark_fits : (plus : Bool) → Fits (if plus then Kind.Plus else Kind.Minus)
mark_fits true = tt
mark_fits false = tt

caps_fit : (later : Bool) (cs : List CapTree) (ps : List Piece) → CapsFit cs → Fit ps → Fit (lay_caps later cs ps)
caps_fit later [] ps f h = h
caps_fit later (c ∷ cs) ps f h = comma_fits later (lay_cap c (lay_caps true cs ps)) (f.0, (mark_fits c.plus, caps_fit true cs ps f.1 h))

-- ---- expressions

mutual
  form_fits : (e : ExprForm) (place : ℕ) (ps : List Piece) → FormFits e → Fit ps → Fit (lay_form e place ps)
  form_fits (binary_expr op l r) place ps f h =
      grouped_fits (weight op) place (λ ps. lay l (left_place op) (blank ∷ token (operator op) ∷ blank ∷ lay r (right_place op) ps)) ps
      (λ qs g. fits l (left_place op) (blank ∷ token (operator op) ∷ blank ∷ lay r (right_place op) qs) f.0 (operator_fits op, fits r (right_place op) qs f.1 g))
      h
  form_fits (unary_expr op e) place ps f h = grouped_fits prefixed place (λ ps. token (sign op) ∷ lay e prefixed ps) ps (λ qs g. (sign_fits op, fits e prefixed qs f g)) h
  form_fits (field_expr e x) place ps f h = fits e before_postfix (token Kind.Dot ∷ token (Kind.Id x.word) ∷ ps) f.0 (tt, (f.1, h))
  form_fits (element_expr e i) place ps f h = fits e before_postfix (token Kind.BracketOpen ∷ lay i whole (token Kind.BracketClose ∷ ps)) f.0 (tt, fits i whole (token Kind.BracketClose ∷ ps) f.1 (tt, h))
  form_fits (number_expr n) place ps f h = (f, h)
  form_fits (text_expr bytes) place ps f h = (f, h)
  form_fits (bool_expr b) place ps f h = (truth_fits b, h)
  form_fits null_expr place ps f h = (tt, h)
  form_fits (name_expr x) place ps f h = (f, h)
  form_fits (call_expr x es) place ps f h = (f.0, (tt, args_fit false es (token Kind.ParenClose ∷ ps) f.1 (tt, h)))
  form_fits (new_class_expr c) place ps f h = (tt, (f, (tt, (tt, h))))
  form_fits (new_array_expr t e) place ps f h =
      let rest = token Kind.ParenClose ∷ ps in
      let after = token Kind.BracketClose ∷ token Kind.ParenOpen ∷ lay e whole rest in
      (tt, (tt, type_fits t after f.0 (tt, (tt, fits e whole rest f.1 (tt, h)))))
  form_fits (label_expr s i) place ps f h =
      let rest = token Kind.BraceClose ∷ ps in
      let after = token Kind.Semicolon ∷ lay_tags false i rest in
      (tt, (tt, args_fit false s after f.0 (tt, tags_fit false i rest f.1 (tt, h))))
  form_fits (caps_expr cs) place ps f h = (tt, (tt, caps_fit false cs (token Kind.BraceClose ∷ ps) f (tt, h)))
  form_fits (spawn_expr c x es) place ps f h =
      let rest = token Kind.ParenClose ∷ ps in
      let after = token Kind.ParenClose ∷ blank ∷ token (Kind.Id x.word) ∷ token Kind.ParenOpen ∷ lay_args false es rest in
      (tt, (tt, fits c whole after f.0 (tt, (f.1, (tt, args_fit false es rest f.2 (tt, h))))))

  fits : (e : ExprTree) (place : ℕ) (ps : List Piece) → ExprFits e → Fit ps → Fit (lay e place ps)
  fits (expr_node at form) place ps f h = form_fits form place ps f h

  args_fit : (later : Bool) (es : ExprList) (ps : List Piece) → ExprsFit es → Fit ps → Fit (lay_args later es ps)
  args_fit later no_exprs ps f h = h
  args_fit later (exprs e es) ps f h = comma_fits later (lay e whole (lay_args true es ps)) (fits e whole (lay_args true es ps) f.0 (args_fit true es ps f.1 h))

  tags_fit : (later : Bool) (es : ExprList) (ps : List Piece) → ExprsFit es → Fit ps → Fit (lay_tags later es ps)
  tags_fit later no_exprs ps f h = h
  tags_fit later (exprs e es) ps f h = spaced_fits later (lay e whole (lay_tags true es ps)) (fits e whole (lay_tags true es ps) f.0 (tags_fit true es ps f.1 h))

value_fits : (e : Option ExprTree) (ps : List Piece) → ValueFits e → Fit ps → Fit (lay_value e ps)
value_fits None ps f h = h
value_fits (Some e) ps f h = fits e whole ps f h

-- ---- statements

mutual
  stmt_form_fits : (s : StmtForm) (n : ℕ) (ps : List Piece) → StmtFormFits s → Fit ps → Fit (lay_stmt_form s n ps)
  stmt_form_fits (let_stmt v e) n ps f h =
      let rest = token Kind.Semicolon ∷ ps in
      (tt, var_fits v (blank ∷ token Kind.Assign ∷ blank ∷ lay e whole rest) f.0 (tt, fits e whole rest f.1 (tt, h)))
  stmt_form_fits (if_stmt e body other) n ps f h =
      let rest = lay_else other n ps in
      (tt, (tt, fits e whole (token Kind.ParenClose ∷ blank ∷ lay_block body n rest) f.0 (tt, block_fits body n rest f.1 (else_fits other n ps f.2 h))))
  stmt_form_fits (while_stmt e body) n ps f h = (tt, (tt, fits e whole (token Kind.ParenClose ∷ blank ∷ lay_block body n ps) f.0 (tt, block_fits body n ps f.1 h)))
  stmt_form_fits (return_stmt e) n ps f h = (tt, value_fits e (token Kind.Semicolon ∷ ps) f (tt, h))
  stmt_form_fits (throw_stmt e) n ps f h = (tt, fits e whole (token Kind.Semicolon ∷ ps) f (tt, h))
  stmt_form_fits (sync_stmt e body) n ps f h = (tt, (tt, fits e whole (token Kind.ParenClose ∷ blank ∷ lay_block body n ps) f.0 (tt, block_fits body n ps f.1 h)))
  stmt_form_fits (region_stmt l c xs body x handler) n ps f h =
      let a = token Kind.ParenClose ∷ blank ∷ lay_block handler n ps in
      let b = blank ∷ token Kind.Catch ∷ blank ∷ token Kind.ParenOpen ∷ token (Kind.Id x.word) ∷ a in
      let d = token Kind.BracketClose ∷ blank ∷ lay_block body n b in
      let e = token Kind.ParenClose ∷ blank ∷ token Kind.BracketOpen ∷ lay_names false xs d in
      let g = token Kind.Comma ∷ blank ∷ lay c whole e in
      let fit_b : Fit b = (tt, (tt, (f.4, (tt, block_fits handler n ps f.5 h)))) in
      let fit_d : Fit d = (tt, block_fits body n b f.3 fit_b) in
      (tt, (tt, fits l whole g f.0 (tt, fits c whole e f.1 (tt, (tt, names_fit false xs d f.2 fit_d)))))
  stmt_form_fits (do_stmt e) n ps f h = fits e whole (token Kind.Semicolon ∷ ps) f (tt, h)
  stmt_form_fits (assign_stmt p e) n ps f h =
      let rest = token Kind.Semicolon ∷ ps in
      fits p whole (blank ∷ token Kind.Assign ∷ blank ∷ lay e whole rest) f.0 (tt, fits e whole rest f.1 (tt, h))

  stmt_fits : (s : StmtTree) (n : ℕ) (ps : List Piece) → StmtFits s → Fit ps → Fit (lay_stmt s n ps)
  stmt_fits (stmt_node at form) n ps f h = stmt_form_fits form n ps f h

  block_fits : (ss : StmtList) (n : ℕ) (ps : List Piece) → BlockFits ss → Fit ps → Fit (lay_block ss n ps)
  block_fits no_stmts n ps f h = (tt, (tt, h))
  block_fits (stmts s ss) n ps f h =
      let rest = line n ∷ token Kind.BraceClose ∷ ps in
      (tt, stmt_fits s (n + 1) (lay_stmts ss (n + 1) rest) f.0 (stmts_fit ss (n + 1) rest f.1 (tt, h)))

  stmts_fit : (ss : StmtList) (n : ℕ) (ps : List Piece) → BlockFits ss → Fit ps → Fit (lay_stmts ss n ps)
  stmts_fit no_stmts n ps f h = h
  stmts_fit (stmts s ss) n ps f h = stmt_fits s n (lay_stmts ss n ps) f.0 (stmts_fit ss n ps f.1 h)

  else_fits : (e : ElseTree) (n : ℕ) (ps : List Piece) → ElseFits e → Fit ps → Fit (lay_else e n ps)
  else_fits no_else n ps f h = h
  else_fits (else_block body) n ps f h = (tt, block_fits body n ps f h)

-- ---- items

fields_fit : (vs : List VarTree) (ps : List Piece) → VarsFit vs → Fit ps → Fit (lay_fields vs ps)
fields_fit [] ps f h = h
fields_fit (v ∷ vs) ps f h = var_fits v (token Kind.Semicolon ∷ lay_fields vs ps) f.0 (tt, fields_fit vs ps f.1 h)

class_body_fits : (vs : List VarTree) (ps : List Piece) → VarsFit vs → Fit ps → Fit (lay_class_body vs ps)
class_body_fits [] ps f h = (tt, h)
class_body_fits (v ∷ vs) ps f h = fields_fit (v ∷ vs) (line 0 ∷ token Kind.BraceClose ∷ ps) f (tt, h)

result_fits : (t : Option TypeTree) (ps : List Piece) → ResultFits t → Fit ps → Fit (lay_result t ps)
result_fits None ps f h = h
result_fits (Some t) ps f h = (tt, type_fits t ps f h)

class_fits : (c : ClassTree) (ps : List Piece) → ClassFits c → Fit ps → Fit (lay_class c ps)
class_fits c ps f h = (tt, (f.0, (tt, class_body_fits c.fields ps f.1 h)))

function_fits : (c : FunctionTree) (ps : List Piece) → FunctionFits c → Fit ps → Fit (lay_function c ps)
function_fits c ps f h =
    let body = blank ∷ lay_block c.body 0 ps in
    let result = lay_result c.result body in
    (tt, (f.0, (tt, vars_fit false c.params (token Kind.ParenClose ∷ result) f.1 (tt, result_fits c.result body f.2 (block_fits c.body 0 ps f.3 h)))))

item_fits : (i : ItemTree) (ps : List Piece) → ItemFits i → Fit ps → Fit (lay_item i ps)
item_fits (class_item c) ps f h = class_fits c ps f h
item_fits (function_item c) ps f h = function_fits c ps f h

items_fit : (later : Bool) (is : ProgramTree) (ps : List Piece) → FitsTree is → Fit ps → Fit (lay_items later is ps)
items_fit later [] ps f h = h
items_fit later (i ∷ is) ps f h =
    let rest = line 0 ∷ lay_items true is ps in
    gap_fits later (lay_item i rest) (item_fits i rest f.0 (items_fit true is ps f.1 h))

pub pieces_fit : PiecesFit
pieces_fit p f = items_fit false p [] f tt
