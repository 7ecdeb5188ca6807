-- A program with its names resolved, where they are declared and reached.
-- A unit's slots are those of its parameters or captures, and then one for each `let`, catch name and `sync`, in order
-- of appearance. The regions of a program are numbered by the position of their `region`.
use Rattle.std.specs.Prelude.{ℕ, ◌+◌, nat_lt, if◌then◌else◌, List, [], ◌∷◌, ◌++◌, length, map, slice_get, Option, Some, None}
use Rattle.std.specs.Str.{bytes_eq}
use Rattle.lam_syntax.specs.Tree.{IdTree, CapTree, TypeTree, VarTree, FunctionTree, class_item, function_item, ProgramTree, ExprTree, expr_node, ExprForm, binary_expr, unary_expr, field_expr, element_expr, number_expr, text_expr, bool_expr, null_expr, name_expr, call_expr, new_class_expr, new_array_expr, label_expr, caps_expr, spawn_expr, ExprList, no_exprs, exprs, StmtTree, stmt_node, StmtForm, let_stmt, if_stmt, while_stmt, return_stmt, throw_stmt, sync_stmt, region_stmt, do_stmt, assign_stmt, StmtList, no_stmts, stmts, ElseTree, no_else, else_block}
use Rattle.lam_operators.specs.Words.{Word}
use Rattle.lam_builtins.specs.Limits.{most_regions}
use Rattle.lam_builtins.specs.declared.Builtin.{Builtin}
use Rattle.lam_builtins.specs.Types.{ValueType, int, bool, bytes, tag, label, caps, file, dir, pipe, thread, object, array, a_value, a_null, nothing, given_type}
use Rattle.lam_types_kinds.specs.Written.{written}
use Rattle.lam_builtins.specs.Operators.{operator_type, unary_type}
use Rattle.lam_builtins.specs.Builtins.{answered, row_by, builtin_named}
use Rattle.lam_resolve_tree.specs.Tree.{ResolvedType, ResolvedGiven, CapSlot, Expression, number_value, text_value, bool_value, null_value, local_value, unary_of, binary_of, field_of, element_of, call_of, builtin_of, new_object, new_array, label_of, caps_of, spawn_of, Expressions, args_end, args_more, Statement, let_slot, if_block, while_block, return_value, throw_value, sync_block, region_block, do_value, set_local, set_field, set_element, Block, block_end, block_more, OtherBlock, no_other, other_block, ResolvedFunction, ResolvedTree}
use Rattle.lam_resolve_tree.specs.Typing.{ResolvedSignature, given_by}

-- where there is one, it goes on
unfoldable pub then_some : {A B : Type 0} → Option A → (A → Option B) → Option B
then_some None next = None
then_some (Some a) next = next a

-- ---- names by number

-- the first entry of a name, with its number
pub record Found (A : Type 0) : Type 0 where
  pub number : ℕ
  pub it : A

abbrev pub found_from : {A : Type 0} → ℕ → Word → List (Word × A) → Option (Found A)
found_from n x [] = None
found_from n x (e ∷ es) = if bytes_eq x e.0 then Some (record { number = n; it = e.1 }) else found_from (n + 1) x es

abbrev pub found : {A : Type 0} → Word → List (Word × A) → Option (Found A)
found x es = found_from 0 x es

-- the names of a program's classes. A class stands by its place among them
abbrev pub class_names : ProgramTree → List (Word × Unit {0})
class_names [] = []
class_names (class_item c ∷ p) = (c.name.word, tt) ∷ class_names p
class_names (function_item f ∷ p) = class_names p

-- a type, with classes by number
abbrev pub numbered : List (Word × Unit {0}) → ValueType → Option ResolvedType
numbered cs int = Some int
numbered cs bool = Some bool
numbered cs bytes = Some bytes
numbered cs tag = Some tag
numbered cs label = Some label
numbered cs caps = Some caps
numbered cs file = Some file
numbered cs dir = Some dir
numbered cs pipe = Some pipe
numbered cs thread = Some thread
numbered cs (object c) = then_some (found c cs) (λ n. Some (object n.number))
numbered cs (array t) = then_some (numbered cs t) (λ t. Some (array t))

abbrev pub resolve_type : List (Word × Unit {0}) → TypeTree → Option ResolvedType
resolve_type cs t = numbered cs (written t)

abbrev pub resolve_result : List (Word × Unit {0}) → Option TypeTree → Option (Option ResolvedType)
resolve_result cs None = Some None
resolve_result cs (Some t) = then_some (resolve_type cs t) (λ t. Some (Some t))

-- fields or parameters
abbrev pub resolve_vars : List (Word × Unit {0}) → List VarTree → Option (List (Word × ResolvedType))
resolve_vars cs [] = Some []
resolve_vars cs (v ∷ vs) = then_some (resolve_type cs v.ty) (λ t. then_some (resolve_vars cs vs) (λ ts. Some ((v.name.word, t) ∷ ts)))

abbrev pub types_of : List (Word × ResolvedType) → List ResolvedType
types_of vs = map (λ v. v.1) vs

-- the classes of a program, by their fields, and its functions by name
pub record Tables : Type 0 where
  pub names : List (Word × Unit {0})
  pub classes : List (List (Word × ResolvedType))
  pub functions : List (Word × ResolvedSignature)

abbrev pub resolve_classes : List (Word × Unit {0}) → ProgramTree → Option (List (List (Word × ResolvedType)))
resolve_classes cs [] = Some []
resolve_classes cs (class_item c ∷ p) = then_some (resolve_vars cs c.fields) (λ fs. then_some (resolve_classes cs p) (λ rest. Some (fs ∷ rest)))
resolve_classes cs (function_item f ∷ p) = resolve_classes cs p

abbrev pub resolve_head : List (Word × Unit {0}) → FunctionTree → Option ResolvedSignature
resolve_head cs f = then_some (resolve_vars cs f.params) (λ vs. then_some (resolve_result cs f.result) (λ r. Some (record { params = types_of vs; result = r })))

abbrev pub resolve_heads : List (Word × Unit {0}) → ProgramTree → Option (List (Word × ResolvedSignature))
resolve_heads cs [] = Some []
resolve_heads cs (class_item c ∷ p) = resolve_heads cs p
resolve_heads cs (function_item f ∷ p) = then_some (resolve_head cs f) (λ h. then_some (resolve_heads cs p) (λ rest. Some ((f.name.word, h) ∷ rest)))

abbrev pub tables_by : List (Word × Unit {0}) → ProgramTree → Option Tables
tables_by cs p = then_some (resolve_classes cs p) (λ classes. then_some (resolve_heads cs p) (λ heads. Some (record { names = cs; classes = classes; functions = heads })))

abbrev pub tables : ProgramTree → Option Tables
tables p = tables_by (class_names p) p

-- ---- expressions

-- a name in scope has a slot and a type
pub record Local : Type 0 where
  pub slot : ℕ
  pub ty : ResolvedType

-- oldest first. In a region only its captures and its own names are there
abbrev pub Locals : Type 0
Locals = List (Word × Local)

abbrev pub with_local : Locals → Word → ℕ → ResolvedType → Locals
with_local ls x n t = ls ++ (x, record { slot = n; ty = t }) ∷ []

-- parameters or captures have the first slots
abbrev pub locals_from : ℕ → List (Word × ResolvedType) → Locals
locals_from n [] = []
locals_from n (v ∷ vs) = (v.0, record { slot = n; ty = v.1 }) ∷ locals_from (n + 1) vs

abbrev pub local_named : Locals → Word → Option Local
local_named ls x = then_some (found x ls) (λ l. Some l.it)

-- an expression, and what it gives
pub record Value : Type 0 where
  pub it : Expression
  pub gives : ResolvedGiven

abbrev pub value_as : Expression → ResolvedGiven → Value
value_as e g = record { it = e; gives = g }

-- arguments, and what the first gives
pub record Args : Type 0 where
  pub it : Expressions
  pub first : ResolvedGiven

abbrev pub args_as : Expressions → ResolvedGiven → Args
args_as es g = record { it = es; first = g }

-- the field of what an expression gives
abbrev pub field_read : Tables → Expression → ResolvedGiven → Word → Option Value
field_read t e (a_value (object c)) f =
    then_some (slice_get t.classes c) (λ fields. then_some (found f fields) (λ p. Some (value_as (field_of e c p.number p.it) (a_value p.it))))
field_read t e _ f = None

abbrev pub element_read : Expression → ResolvedGiven → Expression → Option Value
element_read e (a_value (array t)) i = Some (value_as (element_of e i t) (a_value t))
element_read e _ i = None

abbrev pub builtin_value : Builtin → Args → ResolvedGiven → Value
builtin_value b args g = value_as (builtin_of b args.it (given_type g)) g

-- a built-in call, or else a call of a declared function
abbrev pub called : Tables → Option Builtin → Word → Args → Option Value
called t (Some b) f args = Some (builtin_value b args (answered (row_by ℕ b).signature.answer args.first))
called t None f args = then_some (found f t.functions) (λ h. Some (value_as (call_of h.number args.it) (given_by h.it.result)))

abbrev pub resolve_caps : Locals → List CapTree → Option (List CapSlot)
resolve_caps ls [] = Some []
resolve_caps ls (x ∷ xs) = then_some (local_named ls x.name.word) (λ l. then_some (resolve_caps ls xs) (λ cs. Some (record { slot = l.slot; plus = x.plus } ∷ cs)))

abbrev mutual
  pub resolve : Tables → Locals → ExprTree → Option Value
  resolve t ls (expr_node at form) = resolve_form t ls form

  pub resolve_form : Tables → Locals → ExprForm → Option Value
  resolve_form t ls (binary_expr op l r) =
      then_some (resolve t ls l) (λ l. then_some (resolve t ls r) (λ r. Some (value_as (binary_of op l.it r.it) (a_value (operator_type op)))))
  resolve_form t ls (unary_expr op e) = then_some (resolve t ls e) (λ v. Some (value_as (unary_of op v.it) (a_value (unary_type op))))
  resolve_form t ls (field_expr e f) = then_some (resolve t ls e) (λ v. field_read t v.it v.gives f.word)
  resolve_form t ls (element_expr e i) = then_some (resolve t ls e) (λ v. then_some (resolve t ls i) (λ i. element_read v.it v.gives i.it))
  resolve_form t ls (number_expr n) = Some (value_as (number_value n) (a_value int))
  resolve_form t ls (text_expr bs) = Some (value_as (text_value bs) (a_value bytes))
  resolve_form t ls (bool_expr b) = Some (value_as (bool_value b) (a_value bool))
  resolve_form t ls null_expr = Some (value_as null_value a_null)
  resolve_form t ls (name_expr x) = then_some (local_named ls x) (λ l. Some (value_as (local_value l.slot) (a_value l.ty)))
  resolve_form t ls (call_expr f args) = then_some (resolve_args t ls args) (λ args. called t (builtin_named f.word) f.word args)
  resolve_form t ls (new_class_expr c) = then_some (found c.word t.names) (λ n. Some (value_as (new_object n.number) (a_value (object n.number))))
  resolve_form t ls (new_array_expr ty n) =
      then_some (resolve_type t.names ty) (λ u. then_some (resolve t ls n) (λ n. Some (value_as (new_array u n.it) (a_value (array u)))))
  resolve_form t ls (label_expr s i) =
      then_some (resolve_args t ls s) (λ s. then_some (resolve_args t ls i) (λ i. Some (value_as (label_of s.it i.it) (a_value label))))
  resolve_form t ls (caps_expr items) = then_some (resolve_caps ls items) (λ cs. Some (value_as (caps_of cs) (a_value caps)))
  resolve_form t ls (spawn_expr c f args) =
      then_some (resolve t ls c) (λ c. then_some (found f.word t.functions) (λ h. then_some (resolve_args t ls args) (λ args. Some (value_as (spawn_of c.it h.number args.it) (a_value thread)))))

  pub resolve_args : Tables → Locals → ExprList → Option Args
  resolve_args t ls no_exprs = Some (args_as args_end nothing)
  resolve_args t ls (exprs e rest) = then_some (resolve t ls e) (λ v. then_some (resolve_args t ls rest) (λ r. Some (args_as (args_more v.it r.it) v.gives)))

-- ---- statements

-- the types of the unit's slots so far, and the number of the program's regions so far
pub record State : Type 0 where
  pub slots : List ResolvedType
  pub regions : ℕ

abbrev pub state_as : List ResolvedType → ℕ → State
state_as slots regions = record { slots = slots; regions = regions }

abbrev pub next_slot : State → ResolvedType → State
next_slot st t = state_as (st.slots ++ t ∷ []) st.regions

-- a statement, and what stands after it
pub record Step : Type 0 where
  pub it : Statement
  pub locals : Locals
  pub state : State

abbrev pub step_as : Statement → Locals → State → Step
step_as s ls st = record { it = s; locals = ls; state = st }

-- a block, at whose end its names go out of scope
pub record Closed (A : Type 0) : Type 0 where
  pub it : A
  pub state : State

abbrev pub closed_as : {A : Type 0} → A → State → Closed A
closed_as a st = record { it = a; state = st }

abbrev pub resolve_value : Tables → Locals → Option ExprTree → Option (Option Expression)
resolve_value t ls None = Some None
resolve_value t ls (Some e) = then_some (resolve t ls e) (λ v. Some (Some v.it))

abbrev pub assignment : Expression → Expression → Option Statement
assignment (local_value n) v = Some (set_local n v)
assignment (field_of e c f t) v = Some (set_field e c f t v)
assignment (element_of e i t) v = Some (set_element e i t v)
assignment _ v = None

-- the captured names, as they are outside
abbrev pub resolve_captures : Locals → List IdTree → Option Locals
resolve_captures ls [] = Some []
resolve_captures ls (x ∷ xs) = then_some (local_named ls x.word) (λ l. then_some (resolve_captures ls xs) (λ cs. Some ((x.word, l) ∷ cs)))

-- the captured names of region m of a program. None has more regions than the limit
abbrev pub enter_region : ℕ → Locals → List IdTree → Option Locals
enter_region m ls xs = if nat_lt m most_regions then resolve_captures ls xs else None

abbrev pub slots_of : Locals → List ℕ
slots_of cs = map (λ c. c.1.slot) cs

-- their names and types, which a region takes over
abbrev pub taken_over : Locals → List (Word × ResolvedType)
taken_over cs = map (λ c. (c.0, c.1.ty)) cs

abbrev mutual
  pub resolve_stmt : Tables → Locals → State → StmtTree → Option Step
  resolve_stmt t ls st (stmt_node at form) = resolve_stmt_form t ls st form

  pub resolve_stmt_form : Tables → Locals → State → StmtForm → Option Step
  resolve_stmt_form t ls st (let_stmt x e) =
      then_some (resolve_type t.names x.ty) (λ u. then_some (resolve t ls e) (λ v. Some (step_as (let_slot (length st.slots) v.it) (with_local ls x.name.word (length st.slots) u) (next_slot st u))))
  resolve_stmt_form t ls st (if_stmt e first other) =
      then_some (resolve t ls e) (λ v. then_some (resolve_stmts t ls st first) (λ a. then_some (resolve_else t ls a.state other) (λ b. Some (step_as (if_block v.it a.it b.it) ls b.state))))
  resolve_stmt_form t ls st (while_stmt e body) =
      then_some (resolve t ls e) (λ v. then_some (resolve_stmts t ls st body) (λ a. Some (step_as (while_block v.it a.it) ls a.state)))
  resolve_stmt_form t ls st (return_stmt e) = then_some (resolve_value t ls e) (λ v. Some (step_as (return_value v) ls st))
  resolve_stmt_form t ls st (throw_stmt e) = then_some (resolve t ls e) (λ v. Some (step_as (throw_value v.it) ls st))
  resolve_stmt_form t ls st (sync_stmt e body) =
      then_some (resolve t ls e) (λ v. then_some (given_type v.gives) (λ u. then_some (resolve_stmts t ls (next_slot st u) body) (λ a. Some (step_as (sync_block (length st.slots) v.it a.it) ls a.state))))
  resolve_stmt_form t ls st (region_stmt l k xs body x handler) =
      then_some (resolve t ls l) (λ l. then_some (resolve t ls k) (λ k. then_some (enter_region st.regions ls xs) (λ cs.
      then_some (resolve_stmts t (locals_from 0 (taken_over cs)) (state_as (types_of (taken_over cs)) (st.regions + 1)) body) (λ a.
      then_some (resolve_stmts t (with_local (locals_from 0 (taken_over cs)) x.word (length a.state.slots) int) (next_slot a.state int) handler) (λ b.
      Some (step_as (region_block st.regions l.it k.it (slots_of cs) b.state.slots a.it (length a.state.slots) b.it) ls (state_as st.slots b.state.regions)))))))
  resolve_stmt_form t ls st (do_stmt e) = then_some (resolve t ls e) (λ v. Some (step_as (do_value v.it) ls st))
  resolve_stmt_form t ls st (assign_stmt q e) =
      then_some (resolve t ls q) (λ q. then_some (resolve t ls e) (λ v. then_some (assignment q.it v.it) (λ s. Some (step_as s ls st))))

  pub resolve_else : Tables → Locals → State → ElseTree → Option (Closed OtherBlock)
  resolve_else t ls st no_else = Some (closed_as no_other st)
  resolve_else t ls st (else_block body) = then_some (resolve_stmts t ls st body) (λ a. Some (closed_as (other_block a.it) a.state))

  pub resolve_stmts : Tables → Locals → State → StmtList → Option (Closed Block)
  resolve_stmts t ls st no_stmts = Some (closed_as block_end st)
  resolve_stmts t ls st (stmts s rest) =
      then_some (resolve_stmt t ls st s) (λ a. then_some (resolve_stmts t a.locals a.state rest) (λ b. Some (closed_as (block_more a.it b.it) b.state)))

-- ---- programs

abbrev pub function_as : Word → List (Word × ResolvedType) → Option ResolvedType → Closed Block → ResolvedFunction
function_as name vs result b = record { name = name; params = types_of vs; result = result; slots = b.state.slots; body = b.it }

-- a function after so many regions, and the regions after it
abbrev pub resolve_function : Tables → ℕ → FunctionTree → Option (ResolvedFunction × ℕ)
resolve_function t m f =
    then_some (resolve_vars t.names f.params) (λ vs. then_some (resolve_result t.names f.result) (λ result.
    then_some (resolve_stmts t (locals_from 0 vs) (state_as (types_of vs) m) f.body) (λ b. Some (function_as f.name.word vs result b, b.state.regions))))

abbrev pub resolve_functions : Tables → ℕ → ProgramTree → Option (List ResolvedFunction)
resolve_functions t m [] = Some []
resolve_functions t m (class_item c ∷ p) = resolve_functions t m p
resolve_functions t m (function_item f ∷ p) = then_some (resolve_function t m f) (λ a. then_some (resolve_functions t a.1 p) (λ fs. Some (a.0 ∷ fs)))

unfoldable pub resolved : ProgramTree → Option ResolvedTree
resolved p = then_some (tables p) (λ t. then_some (resolve_functions t 0 p) (λ fs. Some (record { classes = map types_of t.classes; functions = fs })))
