-- The scheme's code of each construct with its structure: branches are nested, constants stand by value, and a region has
-- its body and its catch block inside. Its pieces are what is laid out flat.
use Rattle.std.specs.Prelude.{ℕ, ◌+◌, Bool, true, false, List, [], ◌∷◌, length, Option, Some, None}
use Rattle.thread_steps.specs.Value.{Value}
use Rattle.thread_steps.specs.Value.TheVariants.{Int, Bool as Truth, Bytes, Nothing}
use Rattle.lam_operators.specs.declared.BinaryOp.{BinaryOp}
use Rattle.lam_operators.specs.declared.BinaryOp.TheVariants as binary
use Rattle.lam_operators.specs.declared.UnaryOp.{UnaryOp}
use Rattle.lam_operators.specs.declared.UnaryOp.TheVariants as unary
use Rattle.thread_steps.specs.Op.{Op}
use Rattle.thread_steps.specs.Op.TheVariants.{Load, Store, Pop, Add, Sub, Mul, Div, Rem, Neg, Not, Eq, Ne, Lt, Le, Gt, Ge, Call, Return, Throw, ReadBarrier, WriteBarrier, GetField, PutField, GetElement, PutElement, NewObject, NewArray, MakeLabel, NoCaps, WithPlus, WithMinus, System, EnterMonitor, LeaveMonitor, EnterRegion, Spawn}
use Rattle.lam_meaning.specs.Means.{kind_of}
use Rattle.lam_resolve_tree.specs.Tree.{CapSlot, Expression, number_value, text_value, bool_value, null_value, local_value, unary_of, binary_of, field_of, element_of, call_of, builtin_of, new_object, new_array, label_of, caps_of, spawn_of, Expressions, args_end, args_more, Statement, let_slot, if_block, while_block, return_value, throw_value, sync_block, region_block, do_value, set_local, set_field, set_element, Block, block_end, block_more, OtherBlock, no_other, other_block}
use Rattle.lam_meaning.specs.Pieces as laid
use Rattle.lam_meaning.specs.Pieces.{Pieces, no_pieces, joined, one}

pub data Nested : Type 0 where
  no_code : Nested
  -- an operation that is no jump and enters no region
  does : (op : Op) → Nested
  -- a constant
  puts : (v : Value) → Nested
  both : (first second : Nested) → Nested
  -- where the top operand is true
  when : (first_part : Nested) → Nested
  -- the one where it is true, and else the other
  either : (first_part other_part : Nested) → Nested
  -- as long as the test leaves true
  loops : (test body : Nested) → Nested
  -- a region by its number, with so many captures and slots; its catch block finds the fault's number as an operand
  enters : (number captures slots : ℕ) (body handler : Nested) → Nested

-- the pieces: a region's code is in a unit of its own
abbrev pub pieces_of : Nested → Pieces
pieces_of no_code = no_pieces
pieces_of (does o) = laid.op o
pieces_of (puts v) = one (laid.puts v)
pieces_of (both a b) = joined (pieces_of a) (pieces_of b)
pieces_of (when a) = one (laid.when (pieces_of a))
pieces_of (either a b) = one (laid.either (pieces_of a) (pieces_of b))
pieces_of (loops t b) = one (laid.loops (pieces_of t) (pieces_of b))
pieces_of (enters number captures slots body handler) = laid.op (EnterRegion number)

-- ---- expressions

-- `a && b` leaves false where a is false, and `a || b` true where a is true
abbrev pub operator_code : BinaryOp → Nested → Nested
operator_code binary.And right = either right (puts (Truth false))
operator_code binary.Or right = either (puts (Truth true)) right
operator_code binary.Eq right = both right (does Eq)
operator_code binary.Ne right = both right (does Ne)
operator_code binary.Lt right = both right (does Lt)
operator_code binary.Le right = both right (does Le)
operator_code binary.Gt right = both right (does Gt)
operator_code binary.Ge right = both right (does Ge)
operator_code binary.Add right = both right (does Add)
operator_code binary.Sub right = both right (does Sub)
operator_code binary.Mul right = both right (does Mul)
operator_code binary.Div right = both right (does Div)
operator_code binary.Rem right = both right (does Rem)

abbrev pub prefix_op : UnaryOp → Op
prefix_op unary.Not = Not
prefix_op unary.Neg = Neg

abbrev pub sign_op : Bool → Op
sign_op true = WithPlus
sign_op false = WithMinus

abbrev pub signs_code : List CapSlot → Nested
signs_code [] = no_code
signs_code (x ∷ xs) = both (does (Load x.slot)) (both (does (sign_op x.plus)) (signs_code xs))

abbrev pub count : Expressions → ℕ
count args_end = 0
count (args_more e rest) = count rest + 1

abbrev mutual
  pub expression_code : Expression → Nested
  expression_code (number_value z) = puts (Int z)
  expression_code (text_value bs) = puts (Bytes bs)
  expression_code (bool_value b) = puts (Truth b)
  expression_code null_value = puts Nothing
  expression_code (local_value x) = does (Load x)
  expression_code (unary_of o e) = both (expression_code e) (does (prefix_op o))
  expression_code (binary_of o a b) = both (expression_code a) (operator_code o (expression_code b))
  expression_code (field_of e c f t) = both (expression_code e) (both (does (ReadBarrier 0)) (does (GetField f)))
  expression_code (element_of e i t) = both (expression_code e) (both (expression_code i) (both (does (ReadBarrier 1)) (does GetElement)))
  expression_code (call_of f args) = both (expressions_code args) (does (Call f))
  expression_code (builtin_of b args t) = both (expressions_code args) (does (System b))
  expression_code (new_object c) = does (NewObject c)
  expression_code (new_array t n) = both (expression_code n) (does (NewArray (kind_of t)))
  expression_code (label_of s i) = both (expressions_code s) (both (expressions_code i) (does (MakeLabel (count s) (count i))))
  expression_code (caps_of items) = both (does NoCaps) (signs_code items)
  expression_code (spawn_of c f args) = both (expression_code c) (both (expressions_code args) (does (Spawn f)))

  pub expressions_code : Expressions → Nested
  expressions_code args_end = no_code
  expressions_code (args_more e rest) = both (expression_code e) (expressions_code rest)

-- ---- statements

abbrev pub loads_code : List ℕ → Nested
loads_code [] = no_code
loads_code (x ∷ xs) = both (does (Load x)) (loads_code xs)

-- the monitors of the open `sync`s are given back, the inmost first
abbrev pub gives_back_code : List ℕ → Nested
gives_back_code [] = no_code
gives_back_code (x ∷ xs) = both (does (Load x)) (both (does LeaveMonitor) (gives_back_code xs))

abbrev pub value_code : Option Expression → Nested
value_code None = puts Nothing
value_code (Some e) = expression_code e

abbrev mutual
  -- with the slots of the open `sync`s, the inmost first
  pub statement_code : List ℕ → Statement → Nested
  statement_code os (let_slot x e) = both (expression_code e) (does (Store x))
  statement_code os (set_local x e) = both (expression_code e) (does (Store x))
  statement_code os (set_field e c f t v) = both (expression_code e) (both (expression_code v) (both (does (WriteBarrier 1)) (does (PutField f))))
  statement_code os (set_element e i t v) = both (expression_code e) (both (expression_code i) (both (expression_code v) (both (does (WriteBarrier 2)) (does PutElement))))
  statement_code os (do_value e) = both (expression_code e) (does Pop)
  statement_code os (if_block e body other) = both (expression_code e) (branches_code os (block_code os body) other)
  statement_code os (while_block e body) = loops (expression_code e) (block_code os body)
  statement_code os (return_value e) = both (value_code e) (both (gives_back_code os) (does Return))
  statement_code os (throw_value e) = both (expression_code e) (does Throw)
  statement_code os (sync_block x e body) =
      both (expression_code e) (both (does (Store x)) (both (does (Load x)) (both (does EnterMonitor) (both (block_code (x ∷ os) body) (both (does (Load x)) (does LeaveMonitor))))))
  statement_code os (region_block number l c from slots body slot handler) =
      both (expression_code l) (both (expression_code c) (both (loads_code from) (enters number (length from) (length slots) (block_code [] body) (both (does (Store slot)) (block_code [] handler)))))

  pub block_code : List ℕ → Block → Nested
  block_code os block_end = no_code
  block_code os (block_more s rest) = both (statement_code os s) (block_code os rest)

  pub branches_code : List ℕ → Nested → OtherBlock → Nested
  branches_code os first_part no_other = when first_part
  branches_code os first_part (other_block body) = either first_part (block_code os body)
