-- The scheme's code stands in its units.
use Rattle.std.proofs.Common.{◌≡◌, ℕ, zero, suc, ◌+◌, ◌<◌, ◌≤◌, List, [], ◌∷◌, ◌++◌, length, map, Option, Some, None, refl, ap, ◌∙◌, subst, arith, length-append}
use Rattle.std.proofs.lemmas.Option.{same_Some}
use Rattle.std.specs.Prelude.{slice_get}
use Rattle.lam_value.specs.declared.values.Value.{Value}
use Rattle.lam_value.specs.declared.values.Value.TheVariants.{Nothing}
use Rattle.lam_operators.specs.declared.BinaryOp.{BinaryOp}
use Rattle.lam_operators.specs.declared.BinaryOp.TheVariants as binary
use Rattle.lam_bytecode.specs.Codes.{CodeTree, IsConstant}
use Rattle.lam_bytecode.specs.declared.op.Op.{Op}
use Rattle.lam_bytecode.specs.declared.op.Op.TheVariants.{Jump, JumpIfFalse, Store, Return, LeaveRegion}
use Rattle.lam_bytecode.specs.declared.unit.CodeUnit.{CodeUnit}
use Rattle.lam_bytecode.specs.declared.unit.UnitKind.TheVariants.{Region}
use Rattle.thread_steps.specs.Ops.{region_in}
use Rattle.thread_steps.specs.Next.{ops_of, ops_in}
use Rattle.lam_resolve_tree.specs.Tree.{CapSlot, Expression, unary_of, binary_of, field_of, element_of, call_of, builtin_of, new_array, label_of, caps_of, spawn_of, Expressions, args_end, args_more, Statement, let_slot, if_block, while_block, return_value, throw_value, sync_block, region_block, do_value, set_local, set_field, set_element, Block, block_end, block_more, OtherBlock, no_other, other_block, ResolvedFunction, ResolvedTree}
use Rattle.lam_resolve_tree.specs.Regions.{AreNumbered}
use Rattle.lam_meaning_typed.specs.Pieces as laid
use Rattle.lam_meaning_typed.specs.Pieces.{Pieces, joined, one, op, size, an_op, a_constant, flat, place_of, numbered}
use Rattle.lam_meaning_typed.specs.Scheme as scheme_of
use Rattle.lam_meaning_typed.specs.Scheme.{Draft, function_draft, region_draft, regions_of, regions_in, regions_in_other, all_regions, drafts, unit_of, scheme}
use Rattle.lam_meaning_typed.specs.Nested.{Nested, no_code, does, puts, both, when, either, loops, enters, pieces_of, operator_code, signs_code, expression_code, expressions_code, loads_code, gives_back_code, value_code, statement_code, block_code, branches_code}
use Rattle.lam_meaning_laws.proofs.Placed.{constants_of, Placed, IsPlaced, BlockPlaced, OtherPlaced, function_drafted, function_unit, functions_placed}
use Rattle.lam_meaning_laws.specs.Lone.{bound}
use Rattle.lam_meaning_laws.proofs.Stands.{width, cost, op_here, PutsAt, Stands, AllStand}
use Rattle.lam_meaning_laws.proofs.Constants.{place_there, draft_constants}
use Rattle.lam_meaning_laws.proofs.Laid.{flat_length, width_size, numbered_length, FlatAt, AllFlat, unit_at, flat_front, flat_back, joined_at}

-- the pieces of a region's unit
abbrev region_pieces : Nested → Nested → Pieces
region_pieces body handler = joined (pieces_of body) (joined (op LeaveRegion) (joined (pieces_of handler) (op LeaveRegion)))

-- its constants are constants, and its regions have units
abbrev pub IsLaid : CodeTree → Nested → Type 0
IsLaid code no_code = Unit {0}
IsLaid code (does o) = Unit {0}
IsLaid code (puts v) = IsConstant v
IsLaid code (both a b) = IsLaid code a × IsLaid code b
IsLaid code (when a) = IsLaid code a
IsLaid code (either a b) = IsLaid code a × IsLaid code b
IsLaid code (loops t b) = IsLaid code t × IsLaid code b
IsLaid code (enters number captures slots body handler) =
    (v : ℕ) × (it : CodeUnit) × (region_in number code.units ≡ Some (record { number = v; it = it })) × (slice_get code.units v ≡ Some it) × (it.kind ≡ Region number captures (width body + 1)) × (it.locals ≡ slots) ×
    AllFlat code v 0 (flat 0 (region_pieces body handler)) × (length (ops_of code v) ≡ width body + 1 + width handler + 1) × IsLaid code body × IsLaid code handler

module _ (code : CodeTree) where
  put_stands : (u pc : ℕ) (v : Value) → IsConstant v → FlatAt code u pc (a_constant v) → PutsAt code u pc v
  put_stands u pc v is h = (place_of code.constants v, h.0, place_there code.constants v is (h.1 is))

  abbrev WhenAt : ℕ → ℕ → Pieces → ℕ → Type 0
  WhenAt u pc a m = (op_here code u pc ≡ Some (JumpIfFalse (pc + 1 + m))) × AllFlat code u (pc + 1) (flat (pc + 1) a)

  when_at : (u pc m : ℕ) (a : Pieces) → size a ≡ m → AllFlat code u pc (flat pc (one (laid.when a))) → WhenAt u pc a m
  when_at u pc m a e h = subst (WhenAt u pc a) e (h.0, flat_front code u (pc + 1) (flat (pc + 1) a) [] h.1)

  abbrev EitherAt : ℕ → ℕ → Pieces → Pieces → ℕ → ℕ → Type 0
  EitherAt u pc a b m k =
      (op_here code u pc ≡ Some (JumpIfFalse (pc + 1 + m + 1))) × AllFlat code u (pc + 1) (flat (pc + 1) a) × (op_here code u (pc + 1 + m) ≡ Some (Jump (pc + 1 + m + 1 + k))) × AllFlat code u (pc + 1 + m + 1) (flat (pc + 1 + m + 1) b)

  either_at : (u pc m k : ℕ) (a b : Pieces) → size a ≡ m → size b ≡ k → AllFlat code u pc (flat pc (one (laid.either a b))) → EitherAt u pc a b m k
  either_at u pc m k a b ea eb h =
      let x = flat (pc + 1) a in
      let y = flat (pc + 1 + size a + 1) b in
      let all = flat_front code u (pc + 1) (x ++ an_op (Jump (pc + 1 + size a + 1 + size b)) ∷ y) [] h.1 in
      let la : pc + 1 + length x ≡ pc + 1 + size a = omega (arith, flat_length (pc + 1) a) in
      let back = flat_back code u (pc + 1) (pc + 1 + size a) x (an_op (Jump (pc + 1 + size a + 1 + size b)) ∷ y) la all in
      subst (λ m. EitherAt u pc a b m k) ea (subst (EitherAt u pc a b (size a)) eb (h.0, flat_front code u (pc + 1) x (an_op (Jump (pc + 1 + size a + 1 + size b)) ∷ y) all, back.0, back.1))

  abbrev LoopAt : ℕ → ℕ → Pieces → Pieces → ℕ → ℕ → Type 0
  LoopAt u pc t b m k =
      AllFlat code u pc (flat pc t) × (op_here code u (pc + m) ≡ Some (JumpIfFalse (pc + m + 1 + k + 1))) × AllFlat code u (pc + m + 1) (flat (pc + m + 1) b) × (op_here code u (pc + m + 1 + k) ≡ Some (Jump pc))

  loop_at : (u pc m k : ℕ) (t b : Pieces) → size t ≡ m → size b ≡ k → AllFlat code u pc (flat pc (one (laid.loops t b))) → LoopAt u pc t b m k
  loop_at u pc m k t b et eb h =
      let x = flat pc t in
      let y = flat (pc + size t + 1) b in
      let j = an_op (JumpIfFalse (pc + size t + 1 + size b + 1)) in
      let whole = flat_front code u pc ((x ++ (j ∷ y)) ++ (an_op (Jump pc) ∷ [])) [] h in
      let all = flat_front code u pc (x ++ (j ∷ y)) (an_op (Jump pc) ∷ []) whole in
      let lt : pc + length x ≡ pc + size t = omega (arith, flat_length pc t) in
      let lb : pc + length (x ++ (j ∷ y)) ≡ pc + size t + 1 + size b = omega (arith, length-append x (j ∷ y), flat_length pc t, flat_length (pc + size t + 1) b) in
      let back = flat_back code u pc (pc + size t) x (j ∷ y) lt all in
      let last = flat_back code u pc (pc + size t + 1 + size b) (x ++ (j ∷ y)) (an_op (Jump pc) ∷ []) lb whole in
      subst (λ m. LoopAt u pc t b m k) et (subst (LoopAt u pc t b (size t)) eb (flat_front code u pc x (j ∷ y) all, back.0, back.1, last.0))

  -- what is laid out stands, with more behind it in its unit
  pub laid_stands : (c : Nested) (u pc : ℕ) → AllFlat code u pc (flat pc (pieces_of c)) → IsLaid code c → pc + width c < length (ops_of code u) → Stands code u pc c
  laid_stands no_code u pc h is lt = tt
  laid_stands (does o) u pc h is lt = h.0
  laid_stands (puts v) u pc h is lt = put_stands u pc v is h.0
  laid_stands (both a b) u pc h is lt =
      let k = joined_at code u pc (width a) (pieces_of a) (pieces_of b) (width_size a) h in
      (laid_stands a u pc k.0 is.0 (omega (arith, lt)), laid_stands b u (pc + width a) k.1 is.1 (omega (arith, lt)))
  laid_stands (when a) u pc h is lt =
      let k = when_at u pc (width a) (pieces_of a) (width_size a) h in
      (k.0, omega (arith, lt), laid_stands a u (pc + 1) k.1 is (omega (arith, lt)))
  laid_stands (either a b) u pc h is lt =
      let k = either_at u pc (width a) (width b) (pieces_of a) (pieces_of b) (width_size a) (width_size b) h in
      (k.0, omega (arith, lt), laid_stands a u (pc + 1) k.1 is.0 (omega (arith, lt)), k.2, omega (arith, lt), laid_stands b u (pc + 1 + width a + 1) k.3 is.1 (omega (arith, lt)))
  laid_stands (loops t b) u pc h is lt =
      let k = loop_at u pc (width t) (width b) (pieces_of t) (pieces_of b) (width_size t) (width_size b) h in
      (laid_stands t u pc k.0 is.0 (omega (arith, lt)), k.1, omega (arith, lt), laid_stands b u (pc + width t + 1) k.2 is.1 (omega (arith, lt)), k.3, omega (arith, lt))
  laid_stands (enters number captures slots body handler) u pc h is lt =
      let v = is.0 in
      let one_op : size (op LeaveRegion) ≡ 1 = refl in
      let first = joined_at code v 0 (width body) (pieces_of body) (joined (op LeaveRegion) (joined (pieces_of handler) (op LeaveRegion))) (width_size body) is.6 in
      let z : 0 + width body + 1 ≡ width body + 1 = omega arith in
      let rest = subst (λ n. AllFlat code v n (flat n (joined (pieces_of handler) (op LeaveRegion)))) z (joined_at code v (0 + width body) 1 (op LeaveRegion) (joined (pieces_of handler) (op LeaveRegion)) one_op first.1).1 in
      let last = joined_at code v (width body + 1) (width handler) (pieces_of handler) (op LeaveRegion) (width_size handler) rest in
      (h.0, v, is.1, is.2, is.3, is.4, is.5, laid_stands body v 0 first.0 is.8 (omega (arith, is.7)), first.1.0, laid_stands handler v (width body + 1) last.0 is.9 (omega (arith, is.7)), last.1.0)

-- ---- the code of a program

module _ (code : CodeTree) where
  operator_laid : (o : BinaryOp) (c : Nested) → IsLaid code c → IsLaid code (operator_code o c)
  operator_laid binary.Or c h = (tt, h)
  operator_laid o c h = (h, tt)

  signs_laid : (xs : List CapSlot) → IsLaid code (signs_code xs)
  signs_laid [] = tt
  signs_laid (x ∷ xs) = (tt, (tt, signs_laid xs))

  mutual
    expression_laid : (e : Expression) → IsLaid code (expression_code e)
    expression_laid (unary_of o e) = (expression_laid e, tt)
    expression_laid (binary_of o a b) = (expression_laid a, operator_laid o (expression_code b) (expression_laid b))
    expression_laid (field_of e c f t) = (expression_laid e, (tt, tt))
    expression_laid (element_of e i t) = (expression_laid e, (expression_laid i, (tt, tt)))
    expression_laid (call_of f args) = (expressions_laid args, tt)
    expression_laid (builtin_of b args t) = (expressions_laid args, tt)
    expression_laid (new_array t n) = (expression_laid n, tt)
    expression_laid (label_of s i) = (expressions_laid s, (expressions_laid i, tt))
    expression_laid (caps_of items) = (tt, signs_laid items)
    expression_laid (spawn_of c f args) = (expression_laid c, (expressions_laid args, tt))
    expression_laid e = tt

    expressions_laid : (args : Expressions) → IsLaid code (expressions_code args)
    expressions_laid args_end = tt
    expressions_laid (args_more e rest) = (expression_laid e, expressions_laid rest)

  loads_laid : (xs : List ℕ) → IsLaid code (loads_code xs)
  loads_laid [] = tt
  loads_laid (x ∷ xs) = (tt, loads_laid xs)

  gives_back_laid : (xs : List ℕ) → IsLaid code (gives_back_code xs)
  gives_back_laid [] = tt
  gives_back_laid (x ∷ xs) = (tt, (tt, gives_back_laid xs))

  value_laid : (e : Option Expression) → IsLaid code (value_code e)
  value_laid None = tt
  value_laid (Some e) = expression_laid e

-- a region's unit has its body, its catch block and two leaves
pub region_length : (number : ℕ) (from : List ℕ) (slots : List _) (body : Block) (slot : ℕ) (handler : Block) → length (region_draft number from slots body slot handler).code ≡ width (block_code [] body) + 1 + (1 + width (block_code [] handler)) + 1
region_length number from slots body slot handler =
    let b = block_code [] body in
    let x = block_code [] handler in
    let whole = both b (both (does LeaveRegion) (both (does (Store slot)) (both x (does LeaveRegion)))) in
    omega (arith, flat_length 0 (pieces_of whole), width_size whole)

-- the operations of a unit that is in the code
module _ (r : ResolvedTree) where
  unit_laid : (u : ℕ) (d : Draft) → slice_get (scheme r).units u ≡ Some (unit_of (constants_of r) d) → slice_get (drafts r) u ≡ Some d → AllFlat (scheme r) u 0 d.code × (length (ops_of (scheme r) u) ≡ length d.code)
  unfolding scheme
  unit_laid u d there drafted =
      let same = ap ops_in there in
      (unit_at (scheme r) u (numbered (constants_of r) d.code) d.code (λ i. ap (λ (ops : List Op). slice_get ops i) same) refl (draft_constants [] (drafts r) u d drafted), ap (λ (ops : List Op). length ops) same ∙ numbered_length (constants_of r) d.code)

  region_laid : (number : ℕ) (from : List ℕ) (slots : List _) (body : Block) (slot : ℕ) (handler : Block) → Placed r number (region_draft number from slots body slot handler) → IsLaid (scheme r) (block_code [] body) → IsLaid (scheme r) (block_code [] handler) → IsLaid (scheme r) (enters number (length from) (length slots) (block_code [] body) (both (does (Store slot)) (block_code [] handler)))
  region_laid number from slots body slot handler p hb hh =
      let d = region_draft number from slots body slot handler in
      let h = unit_laid p.unit d p.there p.drafted in
      let long = h.1 ∙ region_length number from slots body slot handler in
      let wb = width_size (block_code [] body) in
      (p.unit, unit_of (constants_of r) d, p.found, p.there, ap (λ k. Region number (length from) (k + 1)) wb, refl, h.0, omega (arith, long), hb, (tt, hh))

  mutual
    statement_laid : (os : List ℕ) (s : Statement) → IsPlaced r s → IsLaid (scheme r) (statement_code os s)
    statement_laid os (let_slot x e) h = (expression_laid (scheme r) e, tt)
    statement_laid os (set_local x e) h = (expression_laid (scheme r) e, tt)
    statement_laid os (set_field e c f t v) h = (expression_laid (scheme r) e, (expression_laid (scheme r) v, (tt, tt)))
    statement_laid os (set_element e i t v) h = (expression_laid (scheme r) e, (expression_laid (scheme r) i, (expression_laid (scheme r) v, (tt, tt))))
    statement_laid os (do_value e) h = (expression_laid (scheme r) e, tt)
    statement_laid os (if_block e body other) h = (expression_laid (scheme r) e, branches_laid os (block_code os body) other (block_laid os body h.0) h.1)
    statement_laid os (while_block e body) h = (expression_laid (scheme r) e, block_laid os body h)
    statement_laid os (return_value e) h = (value_laid (scheme r) e, (gives_back_laid (scheme r) os, tt))
    statement_laid os (throw_value e) h = (expression_laid (scheme r) e, tt)
    statement_laid os (sync_block x e body) h = (expression_laid (scheme r) e, (tt, (tt, (tt, (block_laid (x ∷ os) body h, (tt, tt))))))
    statement_laid os (region_block number l c from slots body slot handler) h =
        (expression_laid (scheme r) l, (expression_laid (scheme r) c, (loads_laid (scheme r) from, region_laid number from slots body slot handler h.0 (block_laid [] body h.1) (block_laid [] handler h.2))))

    block_laid : (os : List ℕ) (b : Block) → BlockPlaced r b → IsLaid (scheme r) (block_code os b)
    block_laid os block_end h = tt
    block_laid os (block_more s rest) h = (statement_laid os s h.0, block_laid os rest h.1)

    branches_laid : (os : List ℕ) (c : Nested) (other : OtherBlock) → IsLaid (scheme r) c → OtherPlaced r other → IsLaid (scheme r) (branches_code os c other)
    branches_laid os c no_other hc h = hc
    branches_laid os c (other_block body) hc h = (hc, block_laid os body h)

-- ---- costs

-- the operations of the units of its regions
abbrev inner : Nested → ℕ
inner no_code = 0
inner (does o) = 0
inner (puts v) = 0
inner (both a b) = inner a + inner b
inner (when a) = inner a
inner (either a b) = inner a + inner b
inner (loops t b) = inner t + inner b
inner (enters number captures slots body handler) = width body + 1 + width handler + 1 + inner body + inner handler

cost_is : (c : Nested) → cost c ≡ width c + inner c
cost_is (both a b) = omega (arith, cost_is a, cost_is b)
cost_is (when a) = omega (arith, cost_is a)
cost_is (either a b) = omega (arith, cost_is a, cost_is b)
cost_is (loops t b) = omega (arith, cost_is t, cost_is b)
cost_is (enters number captures slots body handler) = omega (arith, cost_is body, cost_is handler)
cost_is c = refl

pub total-append : (a b : List Draft) → scheme_of.ops_in (a ++ b) ≡ scheme_of.ops_in a + scheme_of.ops_in b
total-append [] b = omega arith
total-append (d ∷ a) b = omega (arith, total-append a b)

operator_inner : (o : BinaryOp) (c : Nested) → inner (operator_code o c) ≡ inner c
operator_inner binary.And c = omega arith
operator_inner o c = omega arith

signs_inner : (xs : List CapSlot) → inner (signs_code xs) ≡ 0
signs_inner [] = refl
signs_inner (x ∷ xs) = omega (arith, signs_inner xs)

mutual
  expression_inner : (e : Expression) → inner (expression_code e) ≡ 0
  expression_inner (unary_of o e) = omega (arith, expression_inner e)
  expression_inner (binary_of o a b) = omega (arith, expression_inner a, operator_inner o (expression_code b), expression_inner b)
  expression_inner (field_of e c f t) = omega (arith, expression_inner e)
  expression_inner (element_of e i t) = omega (arith, expression_inner e, expression_inner i)
  expression_inner (call_of f args) = omega (arith, expressions_inner args)
  expression_inner (builtin_of b args t) = omega (arith, expressions_inner args)
  expression_inner (new_array t n) = omega (arith, expression_inner n)
  expression_inner (label_of s i) = omega (arith, expressions_inner s, expressions_inner i)
  expression_inner (caps_of items) = omega (arith, signs_inner items)
  expression_inner (spawn_of c f args) = omega (arith, expression_inner c, expressions_inner args)
  expression_inner e = refl

  expressions_inner : (args : Expressions) → inner (expressions_code args) ≡ 0
  expressions_inner args_end = refl
  expressions_inner (args_more e rest) = omega (arith, expression_inner e, expressions_inner rest)

loads_inner : (xs : List ℕ) → inner (loads_code xs) ≡ 0
loads_inner [] = refl
loads_inner (x ∷ xs) = omega (arith, loads_inner xs)

gives_back_inner : (xs : List ℕ) → inner (gives_back_code xs) ≡ 0
gives_back_inner [] = refl
gives_back_inner (x ∷ xs) = omega (arith, gives_back_inner xs)

value_inner : (e : Option Expression) → inner (value_code e) ≡ 0
value_inner None = refl
value_inner (Some e) = expression_inner e

mutual
  statement_inner : (os : List ℕ) (s : Statement) → inner (statement_code os s) ≡ scheme_of.ops_in (regions_of s)
  statement_inner os (let_slot x e) = omega (arith, expression_inner e)
  statement_inner os (set_local x e) = omega (arith, expression_inner e)
  statement_inner os (set_field e c f t v) = omega (arith, expression_inner e, expression_inner v)
  statement_inner os (set_element e i t v) = omega (arith, expression_inner e, expression_inner i, expression_inner v)
  statement_inner os (do_value e) = omega (arith, expression_inner e)
  statement_inner os (if_block e body other) =
      omega (arith, expression_inner e, branches_inner os (block_code os body) other, block_inner os body, total-append (regions_in body) (regions_in_other other))
  statement_inner os (while_block e body) = omega (arith, expression_inner e, block_inner os body)
  statement_inner os (return_value e) = omega (arith, value_inner e, gives_back_inner os)
  statement_inner os (throw_value e) = omega (arith, expression_inner e)
  statement_inner os (sync_block x e body) = omega (arith, expression_inner e, block_inner (x ∷ os) body)
  statement_inner os (region_block number l c from slots body slot handler) =
      omega (arith, expression_inner l, expression_inner c, loads_inner from, block_inner [] body, block_inner [] handler, region_length number from slots body slot handler, total-append (regions_in body) (regions_in handler))

  block_inner : (os : List ℕ) (b : Block) → inner (block_code os b) ≡ scheme_of.ops_in (regions_in b)
  block_inner os block_end = refl
  block_inner os (block_more s rest) = omega (arith, statement_inner os s, block_inner os rest, total-append (regions_of s) (regions_in rest))

  branches_inner : (os : List ℕ) (c : Nested) (other : OtherBlock) → inner (branches_code os c other) ≡ inner c + scheme_of.ops_in (regions_in_other other)
  branches_inner os c no_other = omega arith
  branches_inner os c (other_block body) = omega (arith, block_inner os body)

-- ---- functions

pub function_length : (fn : ResolvedFunction) → length (function_draft fn).code ≡ width (block_code [] fn.body) + 2
function_length fn =
    let whole = both (block_code [] fn.body) (both (puts Nothing) (does Return)) in
    omega (arith, flat_length 0 (pieces_of whole), width_size whole)

-- no more than all operations
cost_within : (fs : List ResolvedFunction) (f : ℕ) (fn : ResolvedFunction) → slice_get fs f ≡ Some fn → cost (block_code [] fn.body) + 2 ≤ scheme_of.ops_in (map function_draft fs) + scheme_of.ops_in (all_regions fs)
cost_within [] f fn e = absurd cc
cost_within (g ∷ fs) zero fn e =
    let same : g ≡ fn = same_Some g fn e in
    let here : cost (block_code [] g.body) + 2 ≤ scheme_of.ops_in (map function_draft (g ∷ fs)) + scheme_of.ops_in (all_regions (g ∷ fs)) = omega (arith, cost_is (block_code [] g.body), block_inner [] g.body, function_length g, total-append (regions_in g.body) (all_regions fs)) in
    subst (λ (x : ResolvedFunction). cost (block_code [] x.body) + 2 ≤ scheme_of.ops_in (map function_draft (g ∷ fs)) + scheme_of.ops_in (all_regions (g ∷ fs))) same here
cost_within (g ∷ fs) (suc f) fn e = omega (arith, cost_within fs f fn e, total-append (regions_in g.body) (all_regions fs))

pub all_stand : (r : ResolvedTree) → AreNumbered r → AllStand (scheme r) (bound r) r
all_stand r numbered f fn e =
    let d = function_draft fn in
    let there = function_unit r f fn e in
    let h = unit_laid r f d there (function_drafted r f fn e) in
    let c = block_code [] fn.body in
    let end = joined (one (laid.puts Nothing)) (op Return) in
    let both_at = joined_at (scheme r) f 0 (width c) (pieces_of c) end (width_size c) h.0 in
    let long = h.1 ∙ function_length fn in
    let few = cost_within r.functions f fn e in
    let sum = total-append (map function_draft r.functions) (all_regions r.functions) in
    record {
      it = unit_of (constants_of r) d;
      there = there;
      locals = refl;
      body = laid_stands (scheme r) c f 0 both_at.0 (block_laid r [] fn.body (functions_placed r numbered f fn e)) (omega (arith, long));
      null = put_stands (scheme r) f (0 + width c) Nothing tt both_at.1.0;
      last = both_at.1.1.0;
      few = omega (arith, few, sum);
    }
