-- The scheme: the pieces of each construct, the units of a program, and its code.
use Rattle.std.specs.Prelude.{ℕ, ◌+◌, Bool, true, false, List, [], ◌∷◌, ◌++◌, length, map, Option, Some}
use Rattle.thread_steps.specs.Value.{Value}
use Rattle.thread_steps.specs.Value.TheVariants.{Nothing}
use Rattle.thread_steps.specs.Kind.{Kind}
use Rattle.lam_operators.specs.declared.BinaryOp.{BinaryOp}
use Rattle.lam_builtins.specs.Types.{int, bool, bytes, tag, pipe}
use Rattle.thread_steps.specs.Op.TheVariants.{Store, Return, LeaveRegion}
use Rattle.thread_steps.specs.ArgKind.{ArgKind}
use Rattle.thread_steps.specs.ArgKind.TheVariants as arg
use Rattle.thread_steps.specs.UnitKind.{UnitKind}
use Rattle.thread_steps.specs.UnitKind.TheVariants.{Function, Region}
use Rattle.thread_steps.specs.CodeUnit.{CodeUnit}
use Rattle.thread_steps.specs.Codes.{CodeTree, code_of}
use Rattle.lam_meaning.specs.Means.{kind_of}
use Rattle.lam_resolve_tree.specs.Tree.{ResolvedType, CapSlot, Expression, Expressions, Statement, if_block, while_block, sync_block, region_block, Block, block_end, block_more, OtherBlock, no_other, other_block, ResolvedFunction, ResolvedTree}
use Rattle.lam_meaning.specs.Pieces.{Pieces, puts, joined, one, op, size, Flat, flat, constants_in, numbered}
use Rattle.lam_meaning.specs.Nested.{pieces_of, operator_code, signs_code, expression_code, expressions_code, loads_code, gives_back_code, value_code, branches_code, statement_code, block_code}
pub use Rattle.lam_meaning.specs.Nested.{prefix_op, sign_op, count}

-- ---- constructs: the pieces of their nested code

abbrev pub signs : List CapSlot → Pieces
signs xs = pieces_of (signs_code xs)

abbrev pub expression : Expression → Pieces
expression e = pieces_of (expression_code e)

abbrev pub expressions : Expressions → Pieces
expressions es = pieces_of (expressions_code es)

-- the right operand and the operator
abbrev pub between : BinaryOp → Expression → Pieces
between o right = pieces_of (operator_code o (expression_code right))

abbrev pub loads : List ℕ → Pieces
loads xs = pieces_of (loads_code xs)

abbrev pub gives_back : List ℕ → Pieces
gives_back xs = pieces_of (gives_back_code xs)

abbrev pub value_or_null : Option Expression → Pieces
value_or_null e = pieces_of (value_code e)

-- the parts of an `if`
abbrev pub branches : List ℕ → Block → OtherBlock → Pieces
branches os body other = pieces_of (branches_code os (block_code os body) other)

-- with the slots of the open `sync`s, the inmost first
abbrev pub statement : List ℕ → Statement → Pieces
statement os s = pieces_of (statement_code os s)

abbrev pub block : List ℕ → Block → Pieces
block os b = pieces_of (block_code os b)

-- ---- units

-- a unit before its constants are numbered
pub record Draft : Type 0 where
  pub kind : UnitKind
  pub locals : ℕ
  pub code : List Flat

abbrev pub arg_kind : ResolvedType → ArgKind
arg_kind int = arg.Int
arg_kind bool = arg.Bool
arg_kind bytes = arg.Bytes
arg_kind tag = arg.Tag
arg_kind pipe = arg.Pipe
arg_kind t = arg.Other

abbrev pub is_int : Option ResolvedType → Bool
is_int (Some int) = true
is_int t = false

-- its body, and null as the result where no return comes
abbrev pub function_draft : ResolvedFunction → Draft
function_draft f =
    record {
      kind = Function f.name (map arg_kind f.params) (is_int f.result);
      locals = length f.slots;
      code = flat 0 (joined (block [] f.body) (joined (one (puts Nothing)) (op Return)));
    }

-- its body, and behind it the catch block, which finds the fault's number as an operand
abbrev pub region_draft : ℕ → List ℕ → List ResolvedType → Block → ℕ → Block → Draft
region_draft number from slots body slot handler =
    record {
      kind = Region number (length from) (size (block [] body) + 1);
      locals = length slots;
      code = flat 0 (joined (block [] body) (joined (op LeaveRegion) (joined (op (Store slot)) (joined (block [] handler) (op LeaveRegion)))));
    }

-- the regions in a block, by the position of their `region`
abbrev mutual
  pub regions_of : Statement → List Draft
  regions_of (if_block e body other) = regions_in body ++ regions_in_other other
  regions_of (while_block e body) = regions_in body
  regions_of (sync_block x e body) = regions_in body
  regions_of (region_block number l c from slots body slot handler) =
      region_draft number from slots body slot handler ∷ regions_in body ++ regions_in handler
  regions_of s = []

  pub regions_in : Block → List Draft
  regions_in block_end = []
  regions_in (block_more s rest) = regions_of s ++ regions_in rest

  pub regions_in_other : OtherBlock → List Draft
  regions_in_other no_other = []
  regions_in_other (other_block body) = regions_in body

abbrev pub all_regions : List ResolvedFunction → List Draft
all_regions [] = []
all_regions (f ∷ fs) = regions_in f.body ++ all_regions fs

-- the functions in source order, and then the regions
abbrev pub drafts : ResolvedTree → List Draft
drafts r = map function_draft r.functions ++ all_regions r.functions

-- ---- the code

abbrev pub all_constants : List Value → List Draft → List Value
all_constants vs [] = vs
all_constants vs (d ∷ ds) = all_constants (constants_in vs d.code) ds

abbrev pub unit_of : List Value → Draft → CodeUnit
unit_of vs d = record { kind = d.kind; locals = d.locals; ops = numbered vs d.code }

abbrev pub code_from : List (List Kind) → List Draft → CodeTree
code_from classes ds = code_of (map (unit_of (all_constants [] ds)) ds) (all_constants [] ds) classes

-- the code of a program
unfoldable pub scheme : ResolvedTree → CodeTree
scheme r = code_from (map (λ ts. map kind_of ts) r.classes) (drafts r)

-- ---- its size: the number of operations of all units, and of regions

abbrev pub ops_in : List Draft → ℕ
ops_in [] = 0
ops_in (d ∷ ds) = length d.code + ops_in ds

abbrev pub ops_count : ResolvedTree → ℕ
ops_count r = ops_in (drafts r)

abbrev pub regions_count : ResolvedTree → ℕ
regions_count r = length (all_regions r.functions)
