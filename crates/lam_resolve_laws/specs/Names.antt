-- Names put back into a resolved program. With the names of a checked program, what comes out is that program but for
-- its positions.
use Rattle.std.specs.Prelude.{ℕ, List, [], ◌∷◌, ◌++◌, map, slice_get, unwrap_or, Option, Some, None}
use Rattle.lam_syntax.specs.Tree.{IdTree, CapTree, TypeTree, VarTree, ItemTree, class_item, function_item, ProgramTree, ExprTree, expr_node, ExprForm, binary_expr, unary_expr, field_expr, element_expr, number_expr, text_expr, bool_expr, null_expr, name_expr, call_expr, new_class_expr, new_array_expr, label_expr, caps_expr, spawn_expr, ExprList, no_exprs, exprs, StmtTree, stmt_node, StmtForm, let_stmt, if_stmt, while_stmt, return_stmt, throw_stmt, sync_stmt, region_stmt, do_stmt, assign_stmt, StmtList, no_stmts, stmts, ElseTree, no_else, else_block}
use Rattle.lam_operators.specs.Words.{Word}
use Rattle.lam_builtins.specs.Types.{ValueType, int, bool, bytes, tag, label, caps, file, dir, pipe, thread, object, array}
use Rattle.lam_types_kinds.specs.Written.{plain}
use Rattle.lam_builtins.specs.Builtins.{row}
use Rattle.lam_resolve_tree.specs.Tree.{ResolvedType, CapSlot, Expression, number_value, text_value, bool_value, null_value, local_value, unary_of, binary_of, field_of, element_of, call_of, builtin_of, new_object, new_array, label_of, caps_of, spawn_of, Expressions, args_end, args_more, Statement, let_slot, if_block, while_block, return_value, throw_value, sync_block, region_block, do_value, set_local, set_field, set_element, Block, block_end, block_more, OtherBlock, no_other, other_block, ResolvedFunction, ResolvedTree}

pub data ItemKind : Type 0 where
  a_class a_function : ItemKind

pub record Names : Type 0 where
  -- which items are classes, in source order
  pub order : List ItemKind
  pub classes : List Word
  -- of each class, in order
  pub fields : List (List Word)
  -- of each function and of each region, by slot. The slot of a `sync` has no name
  pub functions : List (List Word)
  pub regions : List (List Word)

-- ---- the names of a program

abbrev mutual
  -- of the slots of its unit that a statement takes
  pub slot_words : StmtForm → List Word
  slot_words (let_stmt x e) = x.name.word ∷ []
  slot_words (if_stmt e first other) = block_words first ++ else_words other
  slot_words (while_stmt e body) = block_words body
  slot_words (sync_stmt e body) = [] ∷ block_words body
  slot_words _ = []

  pub block_words : StmtList → List Word
  block_words no_stmts = []
  block_words (stmts (stmt_node at form) rest) = slot_words form ++ block_words rest

  pub else_words : ElseTree → List Word
  else_words no_else = []
  else_words (else_block body) = block_words body

abbrev pub id_words : List IdTree → List Word
id_words xs = map (λ x. x.word) xs

abbrev pub var_words : List VarTree → List Word
var_words vs = map (λ v. v.name.word) vs

abbrev mutual
  -- of the slots of each region in a statement
  pub region_words : StmtForm → List (List Word)
  region_words (if_stmt e first other) = block_region_words first ++ else_region_words other
  region_words (while_stmt e body) = block_region_words body
  region_words (sync_stmt e body) = block_region_words body
  region_words (region_stmt l k xs body x handler) = (id_words xs ++ (block_words body ++ x.word ∷ block_words handler)) ∷ (block_region_words body ++ block_region_words handler)
  region_words _ = []

  pub block_region_words : StmtList → List (List Word)
  block_region_words no_stmts = []
  block_region_words (stmts (stmt_node at form) rest) = region_words form ++ block_region_words rest

  pub else_region_words : ElseTree → List (List Word)
  else_region_words no_else = []
  else_region_words (else_block body) = block_region_words body

abbrev pub item_order : ProgramTree → List ItemKind
item_order [] = []
item_order (class_item c ∷ p) = a_class ∷ item_order p
item_order (function_item f ∷ p) = a_function ∷ item_order p

abbrev pub class_words : ProgramTree → List Word
class_words [] = []
class_words (class_item c ∷ p) = c.name.word ∷ class_words p
class_words (function_item f ∷ p) = class_words p

abbrev pub field_words : ProgramTree → List (List Word)
field_words [] = []
field_words (class_item c ∷ p) = var_words c.fields ∷ field_words p
field_words (function_item f ∷ p) = field_words p

abbrev pub function_words : ProgramTree → List (List Word)
function_words [] = []
function_words (class_item c ∷ p) = function_words p
function_words (function_item f ∷ p) = (var_words f.params ++ block_words f.body) ∷ function_words p

abbrev pub all_region_words : ProgramTree → List (List Word)
all_region_words [] = []
all_region_words (class_item c ∷ p) = all_region_words p
all_region_words (function_item f ∷ p) = block_region_words f.body ++ all_region_words p

abbrev pub names_of : ProgramTree → Names
names_of p = record { order = item_order p; classes = class_words p; fields = field_words p; functions = function_words p; regions = all_region_words p }

-- ---- names put back

-- what an expression may name: classes, their fields, functions, the slots of its unit
pub record Words : Type 0 where
  pub classes : List Word
  pub fields : List (List Word)
  pub functions : List Word
  pub slots : List Word

abbrev pub word_at : List Word → ℕ → Word
word_at ws n = unwrap_or (slice_get ws n) []

abbrev pub words_at : List (List Word) → ℕ → List Word
words_at wss n = unwrap_or (slice_get wss n) []

abbrev pub id_as : Word → IdTree
id_as x = record { at = 0; word = x }

abbrev pub worded : List Word → ResolvedType → ValueType
worded cs int = int
worded cs bool = bool
worded cs bytes = bytes
worded cs tag = tag
worded cs label = label
worded cs caps = caps
worded cs file = file
worded cs dir = dir
worded cs pipe = pipe
worded cs thread = thread
worded cs (object c) = object (word_at cs c)
worded cs (array t) = array (worded cs t)

abbrev pub type_named : List Word → ResolvedType → TypeTree
type_named cs t = plain (worded cs t)

abbrev pub var_named : List Word → Word → ResolvedType → VarTree
var_named cs x t = record { name = id_as x; ty = type_named cs t }

abbrev pub caps_named : List Word → List CapSlot → List CapTree
caps_named ws [] = []
caps_named ws (c ∷ cs) = record { name = id_as (word_at ws c.slot); plus = c.plus } ∷ caps_named ws cs

abbrev pub expr_as : ExprForm → ExprTree
expr_as form = expr_node 0 form

abbrev mutual
  pub form_named : Words → Expression → ExprForm
  form_named w (number_value n) = number_expr n
  form_named w (text_value bs) = text_expr bs
  form_named w (bool_value b) = bool_expr b
  form_named w null_value = null_expr
  form_named w (local_value n) = name_expr (word_at w.slots n)
  form_named w (unary_of op e) = unary_expr op (expr_as (form_named w e))
  form_named w (binary_of op l r) = binary_expr op (expr_as (form_named w l)) (expr_as (form_named w r))
  form_named w (field_of e c f t) = field_expr (expr_as (form_named w e)) (id_as (word_at (words_at w.fields c) f))
  form_named w (element_of e i t) = element_expr (expr_as (form_named w e)) (expr_as (form_named w i))
  form_named w (call_of f args) = call_expr (id_as (word_at w.functions f)) (args_named w args)
  form_named w (builtin_of b args t) = call_expr (id_as (row b).name) (args_named w args)
  form_named w (new_object c) = new_class_expr (id_as (word_at w.classes c))
  form_named w (new_array t n) = new_array_expr (type_named w.classes t) (expr_as (form_named w n))
  form_named w (label_of s i) = label_expr (args_named w s) (args_named w i)
  form_named w (caps_of items) = caps_expr (caps_named w.slots items)
  form_named w (spawn_of c f args) = spawn_expr (expr_as (form_named w c)) (id_as (word_at w.functions f)) (args_named w args)

  pub args_named : Words → Expressions → ExprList
  args_named w args_end = no_exprs
  args_named w (args_more e rest) = exprs (expr_as (form_named w e)) (args_named w rest)

abbrev pub expr_named : Words → Expression → ExprTree
expr_named w e = expr_as (form_named w e)

abbrev pub value_named : Words → Option Expression → Option ExprTree
value_named w None = None
value_named w (Some e) = Some (expr_named w e)

-- a unit: what its code may name, and the types of its slots
abbrev pub with_slots : Words → List Word → Words
with_slots w slots = record { classes = w.classes; fields = w.fields; functions = w.functions; slots = slots }

abbrev pub type_at : List ResolvedType → ℕ → ResolvedType
type_at ts n = unwrap_or (slice_get ts n) int

abbrev pub captures_named : List Word → List ℕ → List IdTree
captures_named ws ns = map (λ n. id_as (word_at ws n)) ns

abbrev pub stmt_as : StmtForm → StmtTree
stmt_as form = stmt_node 0 form

-- with the names of the regions' slots, and the types of the slots of the unit
abbrev mutual
  pub stmt_named : List (List Word) → Words → List ResolvedType → Statement → StmtForm
  stmt_named rs w ts (let_slot n e) = let_stmt (var_named w.classes (word_at w.slots n) (type_at ts n)) (expr_named w e)
  stmt_named rs w ts (if_block e body other) = if_stmt (expr_named w e) (block_named rs w ts body) (other_named rs w ts other)
  stmt_named rs w ts (while_block e body) = while_stmt (expr_named w e) (block_named rs w ts body)
  stmt_named rs w ts (return_value e) = return_stmt (value_named w e)
  stmt_named rs w ts (throw_value e) = throw_stmt (expr_named w e)
  stmt_named rs w ts (sync_block n e body) = sync_stmt (expr_named w e) (block_named rs w ts body)
  stmt_named rs w ts (region_block m l c from own body n handler) =
      region_stmt (expr_named w l) (expr_named w c) (captures_named w.slots from) (block_named rs (with_slots w (words_at rs m)) own body) (id_as (word_at (words_at rs m) n)) (block_named rs (with_slots w (words_at rs m)) own handler)
  stmt_named rs w ts (do_value e) = do_stmt (expr_named w e)
  stmt_named rs w ts (set_local n e) = assign_stmt (expr_as (name_expr (word_at w.slots n))) (expr_named w e)
  stmt_named rs w ts (set_field e c f t v) = assign_stmt (expr_as (field_expr (expr_named w e) (id_as (word_at (words_at w.fields c) f)))) (expr_named w v)
  stmt_named rs w ts (set_element e i t v) = assign_stmt (expr_as (element_expr (expr_named w e) (expr_named w i))) (expr_named w v)

  pub block_named : List (List Word) → Words → List ResolvedType → Block → StmtList
  block_named rs w ts block_end = no_stmts
  block_named rs w ts (block_more s rest) = stmts (stmt_as (stmt_named rs w ts s)) (block_named rs w ts rest)

  pub other_named : List (List Word) → Words → List ResolvedType → OtherBlock → ElseTree
  other_named rs w ts no_other = no_else
  other_named rs w ts (other_block body) = else_block (block_named rs w ts body)

abbrev pub vars_named : List Word → List Word → List ResolvedType → List VarTree
vars_named cs (x ∷ xs) (t ∷ ts) = var_named cs x t ∷ vars_named cs xs ts
vars_named cs _ _ = []

abbrev pub result_named : List Word → Option ResolvedType → Option TypeTree
result_named cs None = None
result_named cs (Some t) = Some (type_named cs t)

abbrev pub class_named : List Word → Word → List Word → List ResolvedType → ItemTree
class_named cs x fs ts = class_item (record { at = 0; name = id_as x; fields = vars_named cs fs ts })

abbrev pub function_named : List (List Word) → Words → ResolvedFunction → ItemTree
function_named rs w f =
    function_item (record { at = 0; name = id_as f.name; params = vars_named w.classes w.slots f.params; result = result_named w.classes f.result; body = block_named rs w f.slots f.body })

-- the items in their order: the next class, or the next function
abbrev pub items_named : List (List Word) → Words → List ItemKind → List Word → List (List Word) → List (List ResolvedType) → List (List Word) → List ResolvedFunction → ProgramTree
items_named rs w (a_class ∷ order) (x ∷ xs) (fs ∷ fss) (ts ∷ tss) wss funs = class_named w.classes x fs ts ∷ items_named rs w order xs fss tss wss funs
items_named rs w (a_function ∷ order) xs fss tss (ws ∷ wss) (f ∷ funs) = function_named rs (with_slots w ws) f ∷ items_named rs w order xs fss tss wss funs
items_named rs w _ _ _ _ _ _ = []

abbrev pub program_words : Names → ResolvedTree → Words
program_words names r = record { classes = names.classes; fields = names.fields; functions = map (λ f. f.name) r.functions; slots = [] }

-- the program, with 0 for each position
abbrev pub program_named : Names → ResolvedTree → ProgramTree
program_named names r = items_named names.regions (program_words names r) names.order names.classes names.fields r.classes names.functions r.functions
