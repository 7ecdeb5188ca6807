-- The constants of a program's code are numbers, truth values, bytes and null, and no more than its operations.
use Rattle.std.proofs.Common.{◌≡◌, ◌≤◌, ℕ, ◌+◌, ◌*◌, Bool, true, false, if◌then◌else◌, List, [], ◌∷◌, ◌++◌, length, map, Option, Some, None, arith, length-append}
use Rattle.std.specs.List.{AllByRecursion}
use Rattle.lam_value.specs.declared.values.Value.{Value}
use Rattle.lam_operators.specs.declared.BinaryOp.{BinaryOp}
use Rattle.lam_operators.specs.declared.BinaryOp.TheVariants as binary
use Rattle.lam_bytecode.specs.declared.op.Op.TheVariants.{Jump, JumpIfFalse}
use Rattle.lam_bytecode.specs.Codes.{IsConstant}
use Rattle.lam_resolve_tree.specs.Tree.{CapSlot, Expression, number_value, text_value, bool_value, null_value, local_value, unary_of, binary_of, field_of, element_of, call_of, builtin_of, new_object, new_array, label_of, caps_of, spawn_of, Expressions, args_end, args_more, Statement, let_slot, if_block, while_block, return_value, throw_value, sync_block, region_block, do_value, set_local, set_field, set_element, Block, block_end, block_more, OtherBlock, no_other, other_block, ResolvedFunction, ResolvedTree}
use Rattle.lam_meaning.specs.Pieces.{Piece, does, puts, when, either, loops, Pieces, no_pieces, pieces, joined, size, Flat, an_op, a_constant, flat_of, flat, is_in, with_constant, constants_in}
use Rattle.lam_meaning.specs.Scheme.{between, signs, expression, expressions, loads, gives_back, value_or_null, branches, statement, block, Draft, function_draft, regions_of, regions_in, regions_in_other, all_regions, drafts, all_constants}
use Rattle.lam_meaning.specs.Long.{long_from}
use Rattle.barrier_compiler.proofs.Whole.{short_first}

-- ---- nested code that puts constants alone

abbrev mutual
  IsPlain : Piece → Type 0
  IsPlain (does o) = Unit {0}
  IsPlain (puts v) = IsConstant v
  IsPlain (when first_part) = ArePlain first_part
  IsPlain (either first_part other_part) = ArePlain first_part × ArePlain other_part
  IsPlain (loops test body) = ArePlain test × ArePlain body

  ArePlain : Pieces → Type 0
  ArePlain no_pieces = Unit {0}
  ArePlain (pieces p ps) = IsPlain p × ArePlain ps

both : (ps qs : Pieces) → ArePlain ps → ArePlain qs → ArePlain (joined ps qs)
both no_pieces qs h k = k
both (pieces p ps) qs h k = (h.0, both ps qs h.1 k)

right_side : (o : BinaryOp) (e : Expression) → ArePlain (expression e) → ArePlain (between o e)
right_side binary.And e h = ((h, (tt, tt)), tt)
right_side binary.Or e h = (((tt, tt), h), tt)
right_side binary.Eq e h = both (expression e) _ h (tt, tt)
right_side binary.Ne e h = both (expression e) _ h (tt, tt)
right_side binary.Lt e h = both (expression e) _ h (tt, tt)
right_side binary.Le e h = both (expression e) _ h (tt, tt)
right_side binary.Gt e h = both (expression e) _ h (tt, tt)
right_side binary.Ge e h = both (expression e) _ h (tt, tt)
right_side binary.Add e h = both (expression e) _ h (tt, tt)
right_side binary.Sub e h = both (expression e) _ h (tt, tt)
right_side binary.Mul e h = both (expression e) _ h (tt, tt)
right_side binary.Div e h = both (expression e) _ h (tt, tt)
right_side binary.Rem e h = both (expression e) _ h (tt, tt)

of_signs : (xs : List CapSlot) → ArePlain (signs xs)
of_signs [] = tt
of_signs (x ∷ xs) = (tt, (tt, of_signs xs))

mutual
  of_expression : (e : Expression) → ArePlain (expression e)
  of_expression (number_value z) = (tt, tt)
  of_expression (text_value bs) = (tt, tt)
  of_expression (bool_value b) = (tt, tt)
  of_expression null_value = (tt, tt)
  of_expression (local_value x) = (tt, tt)
  of_expression (unary_of o e) = both (expression e) _ (of_expression e) (tt, tt)
  of_expression (binary_of o a b) = both (expression a) _ (of_expression a) (right_side o b (of_expression b))
  of_expression (field_of e c f t) = both (expression e) _ (of_expression e) (tt, (tt, tt))
  of_expression (element_of e i t) = both (expression e) _ (of_expression e) (both (expression i) _ (of_expression i) (tt, (tt, tt)))
  of_expression (call_of f args) = both (expressions args) _ (of_expressions args) (tt, tt)
  of_expression (builtin_of b args t) = both (expressions args) _ (of_expressions args) (tt, tt)
  of_expression (new_object c) = (tt, tt)
  of_expression (new_array t n) = both (expression n) _ (of_expression n) (tt, tt)
  of_expression (label_of s i) = both (expressions s) _ (of_expressions s) (both (expressions i) _ (of_expressions i) (tt, tt))
  of_expression (caps_of items) = (tt, of_signs items)
  of_expression (spawn_of c f args) = both (expression c) _ (of_expression c) (both (expressions args) _ (of_expressions args) (tt, tt))

  of_expressions : (es : Expressions) → ArePlain (expressions es)
  of_expressions args_end = tt
  of_expressions (args_more e rest) = both (expression e) _ (of_expression e) (of_expressions rest)

of_loads : (xs : List ℕ) → ArePlain (loads xs)
of_loads [] = tt
of_loads (x ∷ xs) = (tt, of_loads xs)

of_monitors : (xs : List ℕ) → ArePlain (gives_back xs)
of_monitors [] = tt
of_monitors (x ∷ xs) = (tt, (tt, of_monitors xs))

of_result : (e : Option Expression) → ArePlain (value_or_null e)
of_result None = (tt, tt)
of_result (Some e) = of_expression e

mutual
  of_statement : (os : List ℕ) (s : Statement) → ArePlain (statement os s)
  of_statement os (let_slot x e) = both (expression e) _ (of_expression e) (tt, tt)
  of_statement os (set_local x e) = both (expression e) _ (of_expression e) (tt, tt)
  of_statement os (set_field e c f t v) = both (expression e) _ (of_expression e) (both (expression v) _ (of_expression v) (tt, (tt, tt)))
  of_statement os (set_element e i t v) =
      both (expression e) _ (of_expression e) (both (expression i) _ (of_expression i) (both (expression v) _ (of_expression v) (tt, (tt, tt))))
  of_statement os (do_value e) = both (expression e) _ (of_expression e) (tt, tt)
  of_statement os (if_block e body other) = both (expression e) _ (of_expression e) (of_branches os body (of_block os body) other)
  of_statement os (while_block e body) = ((of_expression e, of_block os body), tt)
  of_statement os (return_value e) = both (value_or_null e) _ (of_result e) (both (gives_back os) _ (of_monitors os) (tt, tt))
  of_statement os (throw_value e) = both (expression e) _ (of_expression e) (tt, tt)
  of_statement os (sync_block x e body) = both (expression e) _ (of_expression e) (tt, (tt, (tt, both (block (x ∷ os) body) _ (of_block (x ∷ os) body) (tt, (tt, tt)))))
  of_statement os (region_block number l c from slots body slot handler) =
      both (expression l) _ (of_expression l) (both (expression c) _ (of_expression c) (both (loads from) _ (of_loads from) (tt, tt)))

  of_block : (os : List ℕ) (b : Block) → ArePlain (block os b)
  of_block os block_end = tt
  of_block os (block_more s rest) = both (statement os s) _ (of_statement os s) (of_block os rest)

  of_branches : (os : List ℕ) (body : Block) → ArePlain (block os body) → (other : OtherBlock) → ArePlain (branches os body other)
  of_branches os body h no_other = (h, tt)
  of_branches os body h (other_block handler) = ((h, of_block os handler), tt)

-- ---- laid out flat

abbrev pub AreConstants : List Flat → Type 0
AreConstants [] = Unit {0}
AreConstants (an_op o ∷ fs) = AreConstants fs
AreConstants (a_constant v ∷ fs) = IsConstant v × AreConstants fs

all_of : (fs gs : List Flat) → AreConstants fs → AreConstants gs → AreConstants (fs ++ gs)
all_of [] gs h k = k
all_of (an_op o ∷ fs) gs h k = all_of fs gs h k
all_of (a_constant v ∷ fs) gs h k = (h.0, all_of fs gs h.1 k)

mutual
  of_piece : (p : Piece) (at : ℕ) → IsPlain p → AreConstants (flat_of at p)
  of_piece (does o) at h = tt
  of_piece (puts v) at h = (h, tt)
  of_piece (when first_part) at h = of_pieces first_part _ h
  of_piece (either first_part other_part) at h = all_of (flat _ first_part) _ (of_pieces first_part _ h.0) (of_pieces other_part _ h.1)
  of_piece (loops test body) at h =
      let tested = flat at test ++ an_op (JumpIfFalse (at + size test + 1 + size body + 1)) ∷ flat (at + size test + 1) body in
      all_of tested (an_op (Jump at) ∷ []) (all_of (flat at test) _ (of_pieces test at h.0) (of_pieces body (at + size test + 1) h.1)) tt

  of_pieces : (ps : Pieces) (at : ℕ) → ArePlain ps → AreConstants (flat at ps)
  of_pieces no_pieces at h = tt
  of_pieces (pieces p ps) at h = all_of (flat_of at p) _ (of_piece p at h.0) (of_pieces ps _ h.1)

-- ---- of units

abbrev pub AllConstants : List Draft → Type 0
AllConstants ds = AllByRecursion (λ (d : Draft). AreConstants d.code) ds

units_of : (ds es : List Draft) → AllConstants ds → AllConstants es → AllConstants (ds ++ es)
units_of [] es h k = k
units_of (d ∷ ds) es h k = (h.0, units_of ds es h.1 k)

of_function : (f : ResolvedFunction) → AreConstants (function_draft f).code
of_function f = of_pieces _ 0 (both (block [] f.body) _ (of_block [] f.body) (tt, (tt, tt)))

mutual
  regions_of_statement : (s : Statement) → AllConstants (regions_of s)
  regions_of_statement (let_slot x e) = tt
  regions_of_statement (if_block e body other) = units_of (regions_in body) _ (regions_of_block body) (regions_of_other other)
  regions_of_statement (while_block e body) = regions_of_block body
  regions_of_statement (return_value e) = tt
  regions_of_statement (throw_value e) = tt
  regions_of_statement (sync_block x e body) = regions_of_block body
  regions_of_statement (region_block n l c from slots body slot handler) =
      (of_pieces _ 0 (both (block [] body) _ (of_block [] body) (tt, (tt, both (block [] handler) _ (of_block [] handler) (tt, tt)))), units_of (regions_in body) _ (regions_of_block body) (regions_of_block handler))
  regions_of_statement (do_value e) = tt
  regions_of_statement (set_local x e) = tt
  regions_of_statement (set_field e c f t v) = tt
  regions_of_statement (set_element e i t v) = tt

  regions_of_block : (b : Block) → AllConstants (regions_in b)
  regions_of_block block_end = tt
  regions_of_block (block_more s rest) = units_of (regions_of s) _ (regions_of_statement s) (regions_of_block rest)

  regions_of_other : (o : OtherBlock) → AllConstants (regions_in_other o)
  regions_of_other no_other = tt
  regions_of_other (other_block body) = regions_of_block body

of_functions : (fs : List ResolvedFunction) → AllConstants (map function_draft fs)
of_functions [] = tt
of_functions (f ∷ fs) = (of_function f, of_functions fs)

of_regions : (fs : List ResolvedFunction) → AllConstants (all_regions fs)
of_regions [] = tt
of_regions (f ∷ fs) = units_of (regions_in f.body) _ (regions_of_block f.body) (of_regions fs)

pub of_program : (r : ResolvedTree) → AllConstants (drafts r)
of_program r = units_of (map function_draft r.functions) _ (of_functions r.functions) (of_regions r.functions)

-- ---- each once, in one list

one_more : (vs : List Value) (v : Value) → AllByRecursion IsConstant vs → IsConstant v → AllByRecursion IsConstant (vs ++ v ∷ [])
one_more [] v h k = (k, tt)
one_more (w ∷ ws) v h k = (h.0, one_more ws v h.1 k)

if_new : (b : Bool) (vs : List Value) (v : Value) → AllByRecursion IsConstant vs → IsConstant v → AllByRecursion IsConstant (if b then vs else vs ++ v ∷ [])
if_new true vs v h k = h
if_new false vs v h k = one_more vs v h k

in_code : (fs : List Flat) (vs : List Value) → AllByRecursion IsConstant vs → AreConstants fs → AllByRecursion IsConstant (constants_in vs fs)
in_code [] vs h k = h
in_code (an_op o ∷ fs) vs h k = in_code fs vs h k
in_code (a_constant v ∷ fs) vs h k = in_code fs (with_constant vs v) (if_new (is_in v vs) vs v h k.0) k.1

pub in_units : (ds : List Draft) (vs : List Value) → AllByRecursion IsConstant vs → AllConstants ds → AllByRecursion IsConstant (all_constants vs ds)
in_units [] vs h k = h
in_units (d ∷ ds) vs h k = in_units ds (constants_in vs d.code) (in_code d.code vs h k.0) k.1

few_if : (b : Bool) (vs : List Value) (v : Value) → length (if b then vs else vs ++ v ∷ []) ≤ length vs + 1
few_if true vs v = omega arith
few_if false vs v = omega (arith, length-append vs (v ∷ []))

few_in : (fs : List Flat) (vs : List Value) → length (constants_in vs fs) ≤ length vs + length fs
few_in [] vs = omega arith
few_in (an_op o ∷ fs) vs = omega (arith, few_in fs vs)
few_in (a_constant v ∷ fs) vs = omega (arith, few_in fs (with_constant vs v), few_if (is_in v vs) vs v)

pub few_in_all : (ds : List Draft) (n : ℕ) (vs : List Value) → long_from n ds ≡ None → length (all_constants vs ds) ≤ length vs + 65535 * length ds
few_in_all [] n vs e = omega arith
few_in_all (d ∷ ds) n vs e =
    let s = short_first n d ds e in
    omega (arith, s.0, few_in d.code vs, few_in_all ds (n + 1) (constants_in vs d.code) s.1)
