-- The trees as plain data: what a program is, wherever its tree lies in memory.
-- Each definition of the language is on these types. `program_tree` and the other views give them for the values of
-- the code. Row lemmas in proofs/Rows.antt say that the children in a vector are those of its list of items.
use Rattle.std.specs.Prelude.{ℕ, ℤ, Bool, List, [], ◌∷◌, Option, Some, None, string_bytes, Vec}
use Rattle.std.specs.declared.alloc.Global.{Global}
use Rattle.lam_operators.specs.Words.{Word}
use Rattle.lam_syntax.specs.declared.Id.{Id}
use Rattle.lam_syntax.specs.declared.Var.{Var}
use Rattle.lam_syntax.specs.declared.CapItem.{CapItem}
use Rattle.lam_operators.specs.declared.BinaryOp.{BinaryOp}
use Rattle.lam_operators.specs.declared.UnaryOp.{UnaryOp}
use Rattle.lam_syntax.specs.declared.TypeExpr.{TypeExpr}
use Rattle.lam_syntax.specs.declared.TypeKind.{TypeKind, Int, Bool as BoolKind, Bytes, Tag, Label, Caps, File, Dir, Pipe, Thread, Class as ClassKind, Array'}
use Rattle.lam_syntax.specs.declared.Expr.{Expr}
use Rattle.lam_syntax.specs.declared.ExprKind.{ExprKind, Binary', Unary', Field', Element', Number, Text, Bool as BoolExpr, Null, Name, Call', NewClass, NewArray', LabelOf', CapsOf, Spawn', Row_of-Expr, end_of-Expr, more_of-Expr}
use Rattle.lam_syntax.specs.declared.Stmt.{Stmt}
use Rattle.lam_syntax.specs.declared.StmtKind.{StmtKind, Let, If', While', Return, Throw, Sync', Region', Do, Assign, Row_of-Stmt, end_of-Stmt, more_of-Stmt, Held-StmtKind-If-2, None', Some'}
use Rattle.lam_syntax.specs.declared.Class.{Class}
use Rattle.lam_syntax.specs.declared.Function.{Function}
use Rattle.lam_syntax.specs.declared.Item.{Item}
use Rattle.lam_syntax.specs.declared.Item.TheVariants.{Class as ClassItem, Function as FunctionItem}
use Rattle.lam_syntax.specs.declared.Program.{Program}

-- ---- the trees

pub record IdTree : Type 0 where
  pub at : ℕ
  pub word : Word

mutual
  pub data TypeTree : Type 0 where
    type_node : (at : ℕ) (form : TypeForm) → TypeTree

  pub data TypeForm : Type 0 where
    int_type bool_type bytes_type tag_type label_type caps_type : TypeForm
    file_type dir_type pipe_type thread_type : TypeForm
    class_type : (name : Word) → TypeForm
    array_type : (element : TypeTree) → TypeForm

pub record VarTree : Type 0 where
  pub name : IdTree
  pub ty : TypeTree

pub record CapTree : Type 0 where
  pub name : IdTree
  pub plus : Bool

mutual
  pub data ExprTree : Type 0 where
    expr_node : (at : ℕ) (form : ExprForm) → ExprTree

  pub data ExprForm : Type 0 where
    binary_expr : (op : BinaryOp) (left right : ExprTree) → ExprForm
    unary_expr : (op : UnaryOp) (of : ExprTree) → ExprForm
    field_expr : (of : ExprTree) (field : IdTree) → ExprForm
    element_expr : (of index : ExprTree) → ExprForm
    number_expr : (n : ℤ) → ExprForm
    text_expr : (bytes : List ℕ) → ExprForm
    bool_expr : (b : Bool) → ExprForm
    null_expr : ExprForm
    name_expr : (name : Word) → ExprForm
    call_expr : (name : IdTree) (args : ExprList) → ExprForm
    new_class_expr : (class : IdTree) → ExprForm
    new_array_expr : (element : TypeTree) (length : ExprTree) → ExprForm
    label_expr : (s i : ExprList) → ExprForm
    caps_expr : (items : List CapTree) → ExprForm
    spawn_expr : (caps : ExprTree) (function : IdTree) (args : ExprList) → ExprForm

  pub data ExprList : Type 0 where
    no_exprs : ExprList
    exprs : (first : ExprTree) (rest : ExprList) → ExprList

mutual
  pub data StmtTree : Type 0 where
    stmt_node : (at : ℕ) (form : StmtForm) → StmtTree

  pub data StmtForm : Type 0 where
    let_stmt : (var : VarTree) (value : ExprTree) → StmtForm
    if_stmt : (test : ExprTree) (body : StmtList) (other : ElseTree) → StmtForm
    while_stmt : (test : ExprTree) (body : StmtList) → StmtForm
    return_stmt : (value : Option ExprTree) → StmtForm
    throw_stmt : (value : ExprTree) → StmtForm
    sync_stmt : (thing : ExprTree) (body : StmtList) → StmtForm
    region_stmt : (label caps : ExprTree) (captures : List IdTree) (body : StmtList) (catch_name : IdTree) (catch_body : StmtList) → StmtForm
    do_stmt : (value : ExprTree) → StmtForm
    assign_stmt : (place value : ExprTree) → StmtForm

  pub data StmtList : Type 0 where
    no_stmts : StmtList
    stmts : (first : StmtTree) (rest : StmtList) → StmtList

  pub data ElseTree : Type 0 where
    no_else : ElseTree
    else_block : (body : StmtList) → ElseTree

pub record ClassTree : Type 0 where
  pub at : ℕ
  pub name : IdTree
  pub fields : List VarTree

pub record FunctionTree : Type 0 where
  pub at : ℕ
  pub name : IdTree
  pub params : List VarTree
  pub result : Option TypeTree
  pub body : StmtList

pub data ItemTree : Type 0 where
  class_item : (c : ClassTree) → ItemTree
  function_item : (f : FunctionTree) → ItemTree

abbrev pub ProgramTree : Type 0
ProgramTree = List ItemTree

-- ---- the trees of the code's values

abbrev pub id_tree : Id → IdTree
id_tree x = record { at = x.at; word = string_bytes x.name }

abbrev pub ids_tree : List Id → List IdTree
ids_tree [] = []
ids_tree (x ∷ xs) = id_tree x ∷ ids_tree xs

abbrev pub type_form : TypeKind → TypeForm
type_form Int = int_type
type_form BoolKind = bool_type
type_form Bytes = bytes_type
type_form Tag = tag_type
type_form Label = label_type
type_form Caps = caps_type
type_form File = file_type
type_form Dir = dir_type
type_form Pipe = pipe_type
type_form Thread = thread_type
type_form (ClassKind x) = class_type (string_bytes x)
type_form (Array' p at kind) = array_type (type_node at (type_form kind))

abbrev pub type_tree : TypeExpr → TypeTree
type_tree t = type_node t.at (type_form t.kind)

abbrev pub option_type_tree : Option TypeExpr → Option TypeTree
option_type_tree None = None
option_type_tree (Some t) = Some (type_tree t)

abbrev pub var_tree : Var → VarTree
var_tree v = record { name = id_tree v.name; ty = type_tree v.ty }

abbrev pub vars_tree : List Var → List VarTree
vars_tree [] = []
vars_tree (v ∷ vs) = var_tree v ∷ vars_tree vs

abbrev pub cap_tree : CapItem → CapTree
cap_tree c = record { name = id_tree c.name; plus = c.plus }

abbrev pub caps_tree : List CapItem → List CapTree
caps_tree [] = []
caps_tree (c ∷ cs) = cap_tree c ∷ caps_tree cs

abbrev mutual
  pub expr_form : ExprKind → ExprForm
  expr_form (Binary' op p at1 k1 q at2 k2) = binary_expr op (expr_node at1 (expr_form k1)) (expr_node at2 (expr_form k2))
  expr_form (Unary' op p at k) = unary_expr op (expr_node at (expr_form k))
  expr_form (Field' p at k x) = field_expr (expr_node at (expr_form k)) (id_tree x)
  expr_form (Element' p at1 k1 q at2 k2) = element_expr (expr_node at1 (expr_form k1)) (expr_node at2 (expr_form k2))
  expr_form (Number n) = number_expr n
  expr_form (Text v) = text_expr v.items
  expr_form (BoolExpr b) = bool_expr b
  expr_form Null = null_expr
  expr_form (Name x) = name_expr (string_bytes x)
  expr_form (Call' f shape args) = call_expr (id_tree f) (expr_row args)
  expr_form (NewClass c) = new_class_expr (id_tree c)
  expr_form (NewArray' t p at k) = new_array_expr (type_tree t) (expr_node at (expr_form k))
  expr_form (LabelOf' shape1 s shape2 i) = label_expr (expr_row s) (expr_row i)
  expr_form (CapsOf v) = caps_expr (caps_tree v.items)
  expr_form (Spawn' p at k f shape args) = spawn_expr (expr_node at (expr_form k)) (id_tree f.value) (expr_row args)

  pub expr_row : {n : _} → Row_of-Expr n → ExprList
  expr_row end_of-Expr = no_exprs
  expr_row (more_of-Expr at k rest) = exprs (expr_node at (expr_form k)) (expr_row rest)

abbrev pub expr_tree : Expr → ExprTree
expr_tree e = expr_node e.at (expr_form e.kind)

abbrev pub exprs_tree : List Expr → ExprList
exprs_tree [] = no_exprs
exprs_tree (e ∷ es) = exprs (expr_tree e) (exprs_tree es)

abbrev pub option_expr_tree : Option Expr → Option ExprTree
option_expr_tree None = None
option_expr_tree (Some e) = Some (expr_tree e)

abbrev mutual
  pub stmt_form : StmtKind → StmtForm
  stmt_form (Let x e) = let_stmt (var_tree x) (expr_tree e)
  stmt_form (If' e shape body other) = if_stmt (expr_tree e) (stmt_row body) (stmt_held other)
  stmt_form (While' e shape body) = while_stmt (expr_tree e) (stmt_row body)
  stmt_form (Return e) = return_stmt (option_expr_tree e)
  stmt_form (Throw e) = throw_stmt (expr_tree e)
  stmt_form (Sync' e shape body) = sync_stmt (expr_tree e) (stmt_row body)
  stmt_form (Region' l c xs shape1 body x shape2 handler) = region_stmt (expr_tree l.value) (expr_tree c.value) (ids_tree xs.items) (stmt_row body) (id_tree x) (stmt_row handler)
  stmt_form (Do e) = do_stmt (expr_tree e)
  stmt_form (Assign p e) = assign_stmt (expr_tree p) (expr_tree e)

  pub stmt_row : {n : _} → Row_of-Stmt n → StmtList
  stmt_row end_of-Stmt = no_stmts
  stmt_row (more_of-Stmt at k rest) = stmts (stmt_node at (stmt_form k)) (stmt_row rest)

  pub stmt_held : Held-StmtKind-If-2 → ElseTree
  stmt_held None' = no_else
  stmt_held (Some' shape row) = else_block (stmt_row row)

abbrev pub stmt_tree : Stmt → StmtTree
stmt_tree s = stmt_node s.at (stmt_form s.kind)

abbrev pub stmts_tree : List Stmt → StmtList
stmts_tree [] = no_stmts
stmts_tree (s ∷ ss) = stmts (stmt_tree s) (stmts_tree ss)

abbrev pub else_tree : Option (Vec Stmt Global) → ElseTree
else_tree None = no_else
else_tree (Some b) = else_block (stmts_tree b.items)

abbrev pub class_tree : Class → ClassTree
class_tree c = record { at = c.at; name = id_tree c.name; fields = vars_tree c.fields.items }

abbrev pub function_tree : Function → FunctionTree
function_tree f = record { at = f.at; name = id_tree f.name; params = vars_tree f.params.items; result = option_type_tree f.result; body = stmts_tree f.body.items }

abbrev pub item_tree : Item → ItemTree
item_tree (ClassItem c) = class_item (class_tree c)
item_tree (FunctionItem f) = function_item (function_tree f)

abbrev pub items_tree : List Item → ProgramTree
items_tree [] = []
items_tree (i ∷ is) = item_tree i ∷ items_tree is

abbrev pub program_tree : Program → ProgramTree
program_tree p = items_tree p.items.items
