-- Programs that have a text: each of their names, numbers and texts is one that a token has.
use Rattle.std.specs.Prelude.{List, [], ◌∷◌, Option, Some, None}
use Rattle.lam_lexer.specs.declared.token.TokenKind.TheVariants as Kind
use Rattle.lam_syntax.specs.Tree.{IdTree, TypeTree, TypeForm, type_node, class_type, array_type, VarTree, CapTree, ExprTree, ExprForm, ExprList, expr_node, binary_expr, unary_expr, field_expr, element_expr, number_expr, text_expr, bool_expr, null_expr, name_expr, call_expr, new_class_expr, new_array_expr, label_expr, caps_expr, spawn_expr, no_exprs, exprs, StmtTree, StmtForm, StmtList, ElseTree, stmt_node, let_stmt, if_stmt, while_stmt, return_stmt, throw_stmt, sync_stmt, region_stmt, do_stmt, assign_stmt, no_stmts, stmts, no_else, else_block, ClassTree, FunctionTree, ItemTree, class_item, function_item, ProgramTree}
use Rattle.lam_print.specs.Law.{Fits, AllFit}
use Rattle.lam_print.specs.Pieces.{kinds}
use Rattle.lam_print.specs.Canon.{pieces}

abbrev pub NameFits : IdTree → Type 0
NameFits x = Fits (Kind.Id x.word)

abbrev pub NamesFit : List IdTree → Type 0
NamesFit [] = Unit {0}
NamesFit (x ∷ xs) = NameFits x × NamesFit xs

abbrev pub TypeFormFits : TypeForm → Type 0
TypeFormFits (class_type x) = Fits (Kind.Id x)
TypeFormFits (array_type (type_node at form)) = TypeFormFits form
TypeFormFits _ = Unit {0}

abbrev pub TypeFits : TypeTree → Type 0
TypeFits (type_node at form) = TypeFormFits form

abbrev pub ResultFits : Option TypeTree → Type 0
ResultFits None = Unit {0}
ResultFits (Some t) = TypeFits t

abbrev pub VarFits : VarTree → Type 0
VarFits v = NameFits v.name × TypeFits v.ty

abbrev pub VarsFit : List VarTree → Type 0
VarsFit [] = Unit {0}
VarsFit (v ∷ vs) = VarFits v × VarsFit vs

abbrev pub CapsFit : List CapTree → Type 0
CapsFit [] = Unit {0}
CapsFit (c ∷ cs) = NameFits c.name × CapsFit cs

abbrev mutual
  pub FormFits : ExprForm → Type 0
  FormFits (binary_expr op l r) = ExprFits l × ExprFits r
  FormFits (unary_expr op e) = ExprFits e
  FormFits (field_expr e x) = ExprFits e × NameFits x
  FormFits (element_expr e i) = ExprFits e × ExprFits i
  FormFits (number_expr n) = Fits (Kind.Number n)
  FormFits (text_expr bytes) = Fits (Kind.Text bytes)
  FormFits (bool_expr b) = Unit {0}
  FormFits null_expr = Unit {0}
  FormFits (name_expr x) = Fits (Kind.Id x)
  FormFits (call_expr f es) = NameFits f × ExprsFit es
  FormFits (new_class_expr c) = NameFits c
  FormFits (new_array_expr t e) = TypeFits t × ExprFits e
  FormFits (label_expr s i) = ExprsFit s × ExprsFit i
  FormFits (caps_expr cs) = CapsFit cs
  FormFits (spawn_expr c f es) = ExprFits c × NameFits f × ExprsFit es

  pub ExprFits : ExprTree → Type 0
  ExprFits (expr_node at form) = FormFits form

  pub ExprsFit : ExprList → Type 0
  ExprsFit no_exprs = Unit {0}
  ExprsFit (exprs e es) = ExprFits e × ExprsFit es

abbrev pub ValueFits : Option ExprTree → Type 0
ValueFits None = Unit {0}
ValueFits (Some e) = ExprFits e

abbrev mutual
  pub StmtFormFits : StmtForm → Type 0
  StmtFormFits (let_stmt v e) = VarFits v × ExprFits e
  StmtFormFits (if_stmt e body other) = ExprFits e × BlockFits body × ElseFits other
  StmtFormFits (while_stmt e body) = ExprFits e × BlockFits body
  StmtFormFits (return_stmt e) = ValueFits e
  StmtFormFits (throw_stmt e) = ExprFits e
  StmtFormFits (sync_stmt e body) = ExprFits e × BlockFits body
  StmtFormFits (region_stmt l c xs body x handler) = ExprFits l × ExprFits c × NamesFit xs × BlockFits body × NameFits x × BlockFits handler
  StmtFormFits (do_stmt e) = ExprFits e
  StmtFormFits (assign_stmt p e) = ExprFits p × ExprFits e

  pub StmtFits : StmtTree → Type 0
  StmtFits (stmt_node at form) = StmtFormFits form

  pub BlockFits : StmtList → Type 0
  BlockFits no_stmts = Unit {0}
  BlockFits (stmts s ss) = StmtFits s × BlockFits ss

  pub ElseFits : ElseTree → Type 0
  ElseFits no_else = Unit {0}
  ElseFits (else_block body) = BlockFits body

abbrev pub ClassFits : ClassTree → Type 0
ClassFits c = NameFits c.name × VarsFit c.fields

abbrev pub FunctionFits : FunctionTree → Type 0
FunctionFits f = NameFits f.name × VarsFit f.params × ResultFits f.result × BlockFits f.body

abbrev pub ItemFits : ItemTree → Type 0
ItemFits (class_item c) = ClassFits c
ItemFits (function_item f) = FunctionFits f

abbrev pub FitsTree : ProgramTree → Type 0
FitsTree [] = Unit {0}
FitsTree (i ∷ is) = ItemFits i × FitsTree is

-- the canonical pieces of such a program are such tokens
abbrev pub PiecesFit : Type 0
PiecesFit = (p : ProgramTree) → FitsTree p → AllFit (kinds (pieces p))
