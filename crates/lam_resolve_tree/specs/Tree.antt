-- The resolved trees as plain data: what a resolved program is, wherever its tree lies in memory.
-- The meaning of a program and the compiler's scheme are on these types. `resolved_tree` and the other views give them
-- for the values of the code. Row lemmas in proofs/Rows.antt say that the children in a vector are those of its list
-- of items.
use Rattle.std.specs.Prelude.{ℕ, ℤ, Bool, List, [], ◌∷◌, Option, Some, None, string_bytes, Vec}
use Rattle.std.specs.declared.alloc.Global.{Global}
use Rattle.lam_operators.specs.declared.BinaryOp.{BinaryOp}
use Rattle.lam_operators.specs.declared.UnaryOp.{UnaryOp}
use Rattle.lam_operators.specs.Words.{Word}
use Rattle.lam_builtins.specs.declared.Builtin.{Builtin}
use Rattle.lam_builtins.specs.Types.{TypeBy, GivenBy, PlaceBy, int, bool, bytes, tag, label, caps, file, dir, pipe, thread, object, array}
use Rattle.lam_resolve_tree.specs.declared.ValueType.{ValueType, Int, Bool as BoolType, Bytes, Tag, Label, Caps, File, Dir, Pipe, Thread, Object, Array'}
use Rattle.lam_resolve_tree.specs.declared.CapItem.{CapItem}
use Rattle.lam_resolve_tree.specs.declared.Expr.{Expr, Number, Text, Bool as BoolExpr, Null, Local, Unary', Binary', Field', Element', Call', BuiltinCall', NewClass, NewArray', LabelOf', CapsOf, Spawn', Row_of-Expr, end_of-Expr, more_of-Expr}
use Rattle.lam_resolve_tree.specs.declared.Stmt.{Stmt, Let, If', While', Return, Throw, Sync', Region', Do, SetLocal, SetField, SetElement, Row_of-Stmt, end_of-Stmt, more_of-Stmt, Held-Stmt-If-2, None', Some'}
use Rattle.lam_resolve_tree.specs.declared.Class.{Class}
use Rattle.lam_resolve_tree.specs.declared.Function.{Function}
use Rattle.lam_resolve_tree.specs.declared.Resolved.{Resolved}

-- ---- the trees

-- types, with classes by number, and what expressions give and places take of them
abbrev pub ResolvedType : Type 0
ResolvedType = TypeBy ℕ

abbrev pub ResolvedGiven : Type 0
ResolvedGiven = GivenBy ℕ

abbrev pub ResolvedPlace : Type 0
ResolvedPlace = PlaceBy ℕ

-- a tag in `caps`: its slot, and whether it is given as plus
pub record CapSlot : Type 0 where
  pub slot : ℕ
  pub plus : Bool

mutual
  pub data Expression : Type 0 where
    number_value : (n : ℤ) → Expression
    text_value : (bytes : List ℕ) → Expression
    bool_value : (b : Bool) → Expression
    null_value : Expression
    local_value : (slot : ℕ) → Expression
    unary_of : (op : UnaryOp) (of : Expression) → Expression
    binary_of : (op : BinaryOp) (left right : Expression) → Expression
    -- the number of the class, the field's number in it, and its type
    field_of : (of : Expression) (class field : ℕ) (ty : ResolvedType) → Expression
    element_of : (of index : Expression) (ty : ResolvedType) → Expression
    call_of : (function : ℕ) (args : Expressions) → Expression
    -- the type of its result, where it has one
    builtin_of : (call : Builtin) (args : Expressions) (ty : Option ResolvedType) → Expression
    new_object : (class : ℕ) → Expression
    new_array : (element : ResolvedType) (length : Expression) → Expression
    label_of : (s i : Expressions) → Expression
    caps_of : (items : List CapSlot) → Expression
    spawn_of : (caps : Expression) (function : ℕ) (args : Expressions) → Expression

  pub data Expressions : Type 0 where
    args_end : Expressions
    args_more : (first : Expression) (rest : Expressions) → Expressions

mutual
  pub data Statement : Type 0 where
    let_slot : (slot : ℕ) (value : Expression) → Statement
    if_block : (test : Expression) (body : Block) (other : OtherBlock) → Statement
    while_block : (test : Expression) (body : Block) → Statement
    return_value : (value : Option Expression) → Statement
    throw_value : (value : Expression) → Statement
    sync_block : (slot : ℕ) (thing : Expression) (body : Block) → Statement
    -- its number, the captured slots of the unit around, the types of its own slots
    region_block : (number : ℕ) (label caps : Expression) (captures : List ℕ) (slots : List ResolvedType) (body : Block) (catch_slot : ℕ) (catch_body : Block) → Statement
    do_value : (value : Expression) → Statement
    set_local : (slot : ℕ) (value : Expression) → Statement
    set_field : (of : Expression) (class field : ℕ) (ty : ResolvedType) (value : Expression) → Statement
    set_element : (of index : Expression) (ty : ResolvedType) (value : Expression) → Statement

  pub data Block : Type 0 where
    block_end : Block
    block_more : (first : Statement) (rest : Block) → Block

  pub data OtherBlock : Type 0 where
    no_other : OtherBlock
    other_block : (body : Block) → OtherBlock

-- a function. `slots` are the types of all its slots, those of the parameters first
pub record ResolvedFunction : Type 0 where
  pub name : Word
  pub params : List ResolvedType
  pub result : Option ResolvedType
  pub slots : List ResolvedType
  pub body : Block

-- a program: for each class its fields' types, in order, and its functions
pub record ResolvedTree : Type 0 where
  pub classes : List (List ResolvedType)
  pub functions : List ResolvedFunction

-- ---- the trees of the code's values

abbrev pub type_tree : ValueType → ResolvedType
type_tree Int = int
type_tree BoolType = bool
type_tree Bytes = bytes
type_tree Tag = tag
type_tree Label = label
type_tree Caps = caps
type_tree File = file
type_tree Dir = dir
type_tree Pipe = pipe
type_tree Thread = thread
type_tree (Object c) = object c
type_tree (Array' p t) = array (type_tree t)

abbrev pub types_tree : List ValueType → List ResolvedType
types_tree [] = []
types_tree (t ∷ ts) = type_tree t ∷ types_tree ts

abbrev pub option_type_tree : Option ValueType → Option ResolvedType
option_type_tree None = None
option_type_tree (Some t) = Some (type_tree t)

abbrev pub cap_tree : CapItem → CapSlot
cap_tree c = record { slot = c.slot; plus = c.plus }

abbrev pub caps_tree : List CapItem → List CapSlot
caps_tree [] = []
caps_tree (c ∷ cs) = cap_tree c ∷ caps_tree cs

abbrev mutual
  pub expr_tree : Expr → Expression
  expr_tree (Number n) = number_value n
  expr_tree (Text v) = text_value v.items
  expr_tree (BoolExpr b) = bool_value b
  expr_tree Null = null_value
  expr_tree (Local n) = local_value n
  expr_tree (Unary' op p e) = unary_of op (expr_tree e)
  expr_tree (Binary' op p l q r) = binary_of op (expr_tree l) (expr_tree r)
  expr_tree (Field' p e c n t) = field_of (expr_tree e) c n (type_tree t)
  expr_tree (Element' p e q i t) = element_of (expr_tree e) (expr_tree i) (type_tree t)
  expr_tree (Call' n shape args) = call_of n (expr_row args)
  expr_tree (BuiltinCall' b shape args t) = builtin_of b (expr_row args) (option_type_tree t)
  expr_tree (NewClass c) = new_object c
  expr_tree (NewArray' t p e) = new_array (type_tree t) (expr_tree e)
  expr_tree (LabelOf' shape1 s shape2 i) = label_of (expr_row s) (expr_row i)
  expr_tree (CapsOf v) = caps_of (caps_tree v.items)
  expr_tree (Spawn' p e n shape args) = spawn_of (expr_tree e) n (expr_row args)

  pub expr_row : {n : _} → Row_of-Expr n → Expressions
  expr_row end_of-Expr = args_end
  expr_row (more_of-Expr e rest) = args_more (expr_tree e) (expr_row rest)

abbrev pub exprs_tree : List Expr → Expressions
exprs_tree [] = args_end
exprs_tree (e ∷ es) = args_more (expr_tree e) (exprs_tree es)

abbrev pub option_expr_tree : Option Expr → Option Expression
option_expr_tree None = None
option_expr_tree (Some e) = Some (expr_tree e)

abbrev mutual
  pub stmt_tree : Stmt → Statement
  stmt_tree (Let n e) = let_slot n (expr_tree e)
  stmt_tree (If' e shape body other) = if_block (expr_tree e) (stmt_row body) (stmt_held other)
  stmt_tree (While' e shape body) = while_block (expr_tree e) (stmt_row body)
  stmt_tree (Return e) = return_value (option_expr_tree e)
  stmt_tree (Throw e) = throw_value (expr_tree e)
  stmt_tree (Sync' n e shape body) = sync_block n (expr_tree e) (stmt_row body)
  stmt_tree (Region' n l c xs ts shape1 body slot shape2 handler) = region_block n (expr_tree l.value) (expr_tree c.value) xs.items (types_tree ts.items) (stmt_row body) slot (stmt_row handler)
  stmt_tree (Do e) = do_value (expr_tree e)
  stmt_tree (SetLocal n e) = set_local n (expr_tree e)
  stmt_tree (SetField e c n t v) = set_field (expr_tree e.value) c n (type_tree t) (expr_tree v)
  stmt_tree (SetElement e i t v) = set_element (expr_tree e.value) (expr_tree i.value) (type_tree t) (expr_tree v)

  pub stmt_row : {n : _} → Row_of-Stmt n → Block
  stmt_row end_of-Stmt = block_end
  stmt_row (more_of-Stmt s rest) = block_more (stmt_tree s) (stmt_row rest)

  pub stmt_held : Held-Stmt-If-2 → OtherBlock
  stmt_held None' = no_other
  stmt_held (Some' shape row) = other_block (stmt_row row)

abbrev pub stmts_tree : List Stmt → Block
stmts_tree [] = block_end
stmts_tree (s ∷ ss) = block_more (stmt_tree s) (stmts_tree ss)

abbrev pub else_tree : Option (Vec Stmt Global) → OtherBlock
else_tree None = no_other
else_tree (Some b) = other_block (stmts_tree b.items)

abbrev pub class_tree : Class → List ResolvedType
class_tree c = types_tree c.fields.items

abbrev pub classes_tree : List Class → List (List ResolvedType)
classes_tree [] = []
classes_tree (c ∷ cs) = class_tree c ∷ classes_tree cs

abbrev pub function_tree : Function → ResolvedFunction
function_tree f =
    record { name = string_bytes f.name; params = types_tree f.params.items; result = option_type_tree f.result; slots = types_tree f.slots.items; body = stmts_tree f.body.items }

abbrev pub functions_tree : List Function → List ResolvedFunction
functions_tree [] = []
functions_tree (f ∷ fs) = function_tree f ∷ functions_tree fs

abbrev pub resolved_tree : Resolved → ResolvedTree
resolved_tree r = record { classes = classes_tree r.classes.items; functions = functions_tree r.functions.items }
