-- A typed program within the limits of the language names by numbers of 32 bits, and has no more units than code has.
use Rattle.std.proofs.Common.{◌≡◌, ℕ, zero, suc, ◌+◌, ◌^◌, ◌<◌, ◌≤◌, Bool, true, false, ◌&&◌, cond, nat_lt, List, [], ◌∷◌, ◌++◌, length, map, Option, Some, None, refl, sym, ap, ◌∙◌, subst, arith, length-append}
use Rattle.std.proofs.lemmas.Bool.Decides.{nat_tests}
use Rattle.std.proofs.lemmas.List.{length-map}
use Rattle.std.specs.Prelude.{nat_eq, slice_get}
use Rattle.lam_operators.specs.declared.BinaryOp.{BinaryOp}
use Rattle.lam_operators.specs.declared.BinaryOp.TheVariants.{Or, And, Eq, Ne, Lt, Le, Gt, Ge, Add, Sub, Mul, Div, Rem}
use Rattle.lam_operators.specs.declared.UnaryOp.{UnaryOp}
use Rattle.lam_operators.specs.declared.UnaryOp.TheVariants.{Not, Neg}
use Rattle.lam_builtins.specs.Limits.{most_classes, most_functions, most_fields, most_slots, most_regions}
use Rattle.lam_builtins.specs.Types.{int}
use Rattle.lam_builtins.specs.Operators.{operand}
use Rattle.lam_builtins.specs.Builtins.{row_by}
use Rattle.lam_resolve_tree.specs.Tree.{ResolvedType, ResolvedGiven, ResolvedPlace, CapSlot, Expression, number_value, text_value, bool_value, null_value, local_value, unary_of, binary_of, field_of, element_of, call_of, builtin_of, new_object, new_array, label_of, caps_of, spawn_of, Expressions, args_end, args_more, Statement, let_slot, if_block, while_block, return_value, throw_value, sync_block, region_block, do_value, set_local, set_field, set_element, Block, block_end, block_more, OtherBlock, no_other, other_block, ResolvedFunction, ResolvedTree}
use Rattle.lam_resolve_tree.specs.Typing.{ResolvedSignatures, head_of, heads_of, IsField, Use, a_local, a_monitor, Scope, with_use, local_if, locals_of, exact_places, Operates, AreTags, Gives, AreArgs, AreRest, AreTagArgs, Returning, in_region, in_function, Returns, AreCaptured, use_of, after, IsStatement, IsBlock, IsOther, AreFunctions, IsTypedTree}
use Rattle.lam_resolve_tree.specs.Regions as tree
use Rattle.lam_resolve_tree.specs.Regions.{count_up, function_regions, AreNumbered}
use Rattle.lam_resolve_tree.specs.Limits.{RegionsFit, BlockFits, OtherFits, AllUnitsFit, AllFieldsFit, WithinLimits}
use Rattle.lam_bytecode.specs.declared.op.Op.{Op}
use Rattle.lam_bytecode.specs.declared.op.Op.TheVariants.{Load, Store, Call, Return, ReadBarrier, WriteBarrier, GetField, PutField, NewObject, NoCaps, System, EnterMonitor, LeaveMonitor, EnterRegion, LeaveRegion, Spawn}
use Rattle.lam_value.specs.declared.values.Value.TheVariants.{Nothing}
use Rattle.lam_meaning.specs.Pieces.{Pieces, puts, joined, one, op, flat}
use Rattle.lam_meaning.specs.Scheme.{between, prefix_op, sign_op, expression, expressions, signs, loads, gives_back, value_or_null, branches, statement, block, Draft, function_draft, region_draft, regions_of, regions_in, regions_in_other, all_regions, drafts}
use Rattle.lam_resolve_laws.proofs.Finding.{get_below}
use Rattle.barrier_compiler_ops.specs.Emits.{named_by, are_narrow}
use Rattle.barrier_compiler_ops.proofs.Flat.{narrow-joined}
use Rattle.barrier_compiler_units.specs.Adds.{kind_narrow, code_narrow, draft_narrow, drafts_narrow}
use Rattle.barrier_compiler_units.proofs.Joins.{narrow-append}
use Rattle.barrier_compiler_units.proofs.UnitSteps.{narrow-flat}

-- ---- pieces

and_true : (a b : Bool) → a ≡ true → b ≡ true → (a && b) ≡ true
and_true a b e g = ap (λ x. x && b) e ∙ g

both : (ps qs : Pieces) → are_narrow ps ≡ true → are_narrow qs ≡ true → are_narrow (joined ps qs) ≡ true
both ps qs e g = narrow-joined ps qs ∙ and_true (are_narrow ps) (are_narrow qs) e g

below_wide : (n : ℕ) → n < 2 ^ 32 → nat_lt n (2 ^ 32) ≡ true
below_wide n h = grind (arith, nat_tests, h)

named : (o : Op) → named_by o < 2 ^ 32 → are_narrow (op o) ≡ true
named o h = and_true (nat_lt (named_by o) (2 ^ 32)) true (below_wide (named_by o) h) refl

-- ---- numbers

fields_below : (cs : List (List ResolvedType)) (c : ℕ) (fields : List ResolvedType) → AllFieldsFit cs → slice_get cs c ≡ Some fields → length fields ≤ most_fields
fields_below [] c fields h e = absurd cc
fields_below (x ∷ cs) zero fields h e = let same : x ≡ fields = cc in subst (λ (l : List ResolvedType). length l ≤ most_fields) same h.0
fields_below (x ∷ cs) (suc c) fields h e = fields_below cs c fields h.1 e

-- all slots in scope are below n
abbrev Below : ℕ → Scope → Type 0
Below n env = (m : ℕ) (u : Use) → env m ≡ Some u → m < n

below_locals : (ts : List ResolvedType) (n : ℕ) → length ts ≤ n → Below n (locals_of ts)
below_locals ts n le m u e = by (slice_get ts m) refl e
  where
    by : (o : Option ResolvedType) → slice_get ts m ≡ o → local_if o ≡ Some u → m < n
    by None k e = absurd cc
    by (Some t) k e = omega (arith, le, get_below ts m t k)

below_with : (n m : ℕ) (env : Scope) (v : Use) → m < n → Below n env → Below n (with_use env m v)
below_with n m env v lt h k u e = by (nat_eq k m) refl e
  where
    by : (b : Bool) → nat_eq k m ≡ b → cond b (Some v) (env k) ≡ Some u → k < n
    by true q e = let same : k ≡ m = grind (arith, nat_tests, q) in omega (arith, same, lt)
    by false q e = h k u e

below_used : (n m : ℕ) (env : Scope) (o : Option ResolvedType) → m < n → Below n env → Below n (use_of o env m)
below_used n m env None lt h = h
below_used n m env (Some t) lt h = below_with n m env (a_local t) lt h

below_after : (slots : List ResolvedType) (env : Scope) (s : Statement) (p : ResolvedSignatures) (ret : Returning) → Below (length slots) env → IsStatement p slots ret env s → Below (length slots) (after slots env s)
below_after slots env (let_slot m e) p ret h (t, k, f) = below_used (length slots) m env (slice_get slots m) (get_below slots m t k.0) h
below_after slots env (if_block e body other) p ret h k = h
below_after slots env (while_block e body) p ret h k = h
below_after slots env (return_value e) p ret h k = h
below_after slots env (throw_value e) p ret h k = h
below_after slots env (sync_block m e body) p ret h k = h
below_after slots env (region_block m l c from own body x handler) p ret h k = h
below_after slots env (do_value e) p ret h k = h
below_after slots env (set_local m e) p ret h k = h
below_after slots env (set_field e c f t v) p ret h k = h
below_after slots env (set_element e i t v) p ret h k = h

abbrev AllBelow : ℕ → List ℕ → Type 0
AllBelow n [] = Unit {0}
AllBelow n (m ∷ ms) = (m < n) × AllBelow n ms

below_left : (n : ℕ) (xs ys : List ℕ) → AllBelow n (xs ++ ys) → AllBelow n xs
below_left n [] ys h = tt
below_left n (x ∷ xs) ys h = (h.0, below_left n xs ys h.1)

below_right : (n : ℕ) (xs ys : List ℕ) → AllBelow n (xs ++ ys) → AllBelow n ys
below_right n [] ys h = h
below_right n (x ∷ xs) ys h = below_right n xs ys h.1

below_up : (n m k : ℕ) → m + k ≤ n → AllBelow n (count_up m k)
below_up n m zero h = tt
below_up n m (suc k) h = (omega (arith, h), below_up n (suc m) k (omega (arith, h)))

-- ---- expressions

operands : (o : Option ResolvedType) (L R : ResolvedGiven → Type 0) → Operates o L R → ((g : ResolvedGiven) × L g) × ((g : ResolvedGiven) × R g)
operands None L R (g, h, l, r, e) = ((g, l), (h, r))
operands (Some t) L R (l, r) = ((l.0, l.1), (r.0, r.1))

between_narrow : (o : BinaryOp) (right : Expression) → are_narrow (expression right) ≡ true → are_narrow (between o right) ≡ true
between_narrow And right e = and_true (are_narrow (expression right) && true) true (and_true (are_narrow (expression right)) true e refl) refl
between_narrow Or right e = and_true (are_narrow (expression right)) true e refl
between_narrow Eq right e = both (expression right) _ e refl
between_narrow Ne right e = both (expression right) _ e refl
between_narrow Lt right e = both (expression right) _ e refl
between_narrow Le right e = both (expression right) _ e refl
between_narrow Gt right e = both (expression right) _ e refl
between_narrow Ge right e = both (expression right) _ e refl
between_narrow Add right e = both (expression right) _ e refl
between_narrow Sub right e = both (expression right) _ e refl
between_narrow Mul right e = both (expression right) _ e refl
between_narrow Div right e = both (expression right) _ e refl
between_narrow Rem right e = both (expression right) _ e refl

prefix_narrow : (o : UnaryOp) (e : Pieces) → are_narrow e ≡ true → are_narrow (joined e (op (prefix_op o))) ≡ true
prefix_narrow Not e h = both e _ h refl
prefix_narrow Neg e h = both e _ h refl

sign_narrow : (b : Bool) → are_narrow (op (sign_op b)) ≡ true
sign_narrow true = refl
sign_narrow false = refl

signs_narrow : (env : Scope) (n : ℕ) (xs : List CapSlot) → n ≤ most_slots → Below n env → AreTags env xs → are_narrow (signs xs) ≡ true
signs_narrow env n [] few h k = refl
signs_narrow env n (x ∷ xs) few h k =
    both (op (Load x.slot)) (joined (op (sign_op x.plus)) (signs xs)) (named (Load x.slot) (omega (arith, few, h x.slot _ k.0))) (both (op (sign_op x.plus)) (signs xs) (sign_narrow x.plus) (signs_narrow env n xs few h k.1))

loads_narrow : (xs : List ℕ) → AllBelow most_slots xs → are_narrow (loads xs) ≡ true
loads_narrow [] h = refl
loads_narrow (x ∷ xs) h = both (op (Load x)) (loads xs) (named (Load x) (omega (arith, h.0))) (loads_narrow xs h.1)

back_narrow : (xs : List ℕ) → AllBelow most_slots xs → are_narrow (gives_back xs) ≡ true
back_narrow [] h = refl
back_narrow (x ∷ xs) h = both (op (Load x)) (joined (op LeaveMonitor) (gives_back xs)) (named (Load x) (omega (arith, h.0))) (both (op LeaveMonitor) (gives_back xs) refl (back_narrow xs h.1))

captured_below : (env : Scope) (n : ℕ) (from : List ℕ) (ts : List ResolvedType) → n ≤ most_slots → Below n env → AreCaptured env from ts → AllBelow most_slots from × (length from ≡ length ts)
captured_below env n [] [] few h k = (tt, refl)
captured_below env n [] (t ∷ ts) few h k = absurd k
captured_below env n (x ∷ from) [] few h k = absurd k
captured_below env n (x ∷ from) (t ∷ ts) few h (e, k) = let r = captured_below env n from ts few h k in ((omega (arith, few, h x _ e), r.0), ap suc r.1)

module _ (p : ResolvedSignatures) (classes : length p.classes ≤ most_classes) (functions : length p.functions ≤ most_functions) (fit : AllFieldsFit p.classes) where
  field_below : (c f : ℕ) (t : ResolvedType) → IsField p c f t → f < 2 ^ 32
  field_below c f t (fields, e, g) = omega (arith, fields_below p.classes c fields fit e, get_below fields f t g)

  module _ (env : Scope) (n : ℕ) (few : n ≤ most_slots) (h : Below n env) where
    mutual
      narrow : (e : Expression) (g : ResolvedGiven) → Gives p env e g → are_narrow (expression e) ≡ true
      narrow (number_value z) g k = refl
      narrow (text_value bs) g k = refl
      narrow (bool_value b) g k = refl
      narrow null_value g k = refl
      narrow (local_value x) g (t, e, k) = named (Load x) (omega (arith, few, h x (a_local t) e))
      narrow (unary_of o e) g ((g2, k, fits), is) = prefix_narrow o (expression e) (narrow e g2 k)
      narrow (binary_of o a b) g (k, is) =
          let q = operands (operand o) (λ h. Gives p env a h) (λ h. Gives p env b h) k in
          both (expression a) (between o b) (narrow a q.0.0 q.0.1) (between_narrow o b (narrow b q.1.0 q.1.1))
      narrow (field_of e c f t) g (k, field, is) =
          both (expression e) _ (narrow e _ k) (both (op (ReadBarrier 0)) (op (GetField f)) refl (named (GetField f) (field_below c f t field)))
      narrow (element_of e i t) g (k, (g2, m, fits), is) =
          both (expression e) _ (narrow e _ k) (both (expression i) _ (narrow i g2 m) refl)
      narrow (call_of f args) g (head, first, at, k, is) =
          both (expressions args) (op (Call f)) (args_narrow args (exact_places head.params) first k) (named (Call f) (omega (arith, functions, get_below p.functions f head at)))
      narrow (builtin_of b args t) g (first, k, is, ty) = both (expressions args) (op (System b)) (args_narrow args (row_by ℕ b).signature.takes first k) refl
      narrow (new_object c) g (lt, is) = named (NewObject c) (omega (arith, classes, lt))
      narrow (new_array t m) g (known, (g2, k, fits), is) = both (expression m) _ (narrow m g2 k) refl
      narrow (label_of s i) g (ks, ki, is) = both (expressions s) _ (tags_narrow s ks) (both (expressions i) _ (tags_narrow i ki) refl)
      narrow (caps_of items) g (k, is) = both (op NoCaps) (signs items) refl (signs_narrow env n items few h k)
      narrow (spawn_of c f args) g (head, first, (g2, k, fits), at, int_result, ks, is) =
          both (expression c) _ (narrow c g2 k) (both (expressions args) (op (Spawn f)) (args_narrow args (exact_places head.params) first ks) (named (Spawn f) (omega (arith, functions, get_below p.functions f head at))))

      args_narrow : (es : Expressions) (ws : List ResolvedPlace) (first : ResolvedGiven) → AreArgs p env ws es first → are_narrow (expressions es) ≡ true
      args_narrow args_end [] first k = refl
      args_narrow args_end (w ∷ ws) first k = absurd k
      args_narrow (args_more e rest) [] first k = absurd k
      args_narrow (args_more e rest) (w ∷ ws) first (k, fits, ks) = both (expression e) (expressions rest) (narrow e first k) (rest_narrow rest ws ks)

      rest_narrow : (es : Expressions) (ws : List ResolvedPlace) → AreRest p env ws es → are_narrow (expressions es) ≡ true
      rest_narrow args_end [] k = refl
      rest_narrow args_end (w ∷ ws) k = absurd k
      rest_narrow (args_more e rest) [] k = absurd k
      rest_narrow (args_more e rest) (w ∷ ws) ((g, k, fits), ks) = both (expression e) (expressions rest) (narrow e g k) (rest_narrow rest ws ks)

      tags_narrow : (es : Expressions) → AreTagArgs p env es → are_narrow (expressions es) ≡ true
      tags_narrow args_end k = refl
      tags_narrow (args_more e rest) ((g, k, fits), ks) = both (expression e) (expressions rest) (narrow e g k) (tags_narrow rest ks)

    value_narrow : (ret : Returning) (v : Option Expression) → Returns p ret env v → are_narrow (value_or_null v) ≡ true
    value_narrow in_region v k = absurd k
    value_narrow (in_function None) None k = refl
    value_narrow (in_function None) (Some e) k = absurd k
    value_narrow (in_function (Some t)) None k = absurd k
    value_narrow (in_function (Some t)) (Some e) k = narrow e k.0 k.1

  -- ---- statements, and the units of their regions

  -- its own code, and the drafts of its regions
  abbrev Both : Pieces → List Draft → Type 0
  Both ps ds = (are_narrow ps ≡ true) × (drafts_narrow ds ≡ true)

  drafts_both : (ds es : List Draft) → drafts_narrow ds ≡ true → drafts_narrow es ≡ true → drafts_narrow (ds ++ es) ≡ true
  drafts_both ds es e g = narrow-append ds es ∙ and_true (drafts_narrow ds) (drafts_narrow es) e g

  draft_fits : (d : Draft) (ps : Pieces) → d.locals ≤ most_slots → kind_narrow d.kind ≡ true → d.code ≡ flat 0 ps → are_narrow ps ≡ true → draft_narrow d ≡ true
  draft_fits d ps l k e n =
      and_true (nat_lt d.locals (2 ^ 32)) _ (below_wide d.locals (omega (arith, l))) (and_true (kind_narrow d.kind) (code_narrow d.code) k (ap code_narrow e ∙ narrow-flat 0 ps ∙ n))

  mutual
    stmt_narrow : (s : Statement) (slots : List ResolvedType) (ret : Returning) (env : Scope) (os : List ℕ) → length slots ≤ most_slots → Below (length slots) env → AllBelow most_slots os → RegionsFit s → AllBelow most_regions (tree.regions_in s) → IsStatement p slots ret env s →
        Both (statement os s) (regions_of s)
    stmt_narrow (let_slot x e) slots ret env os few h held rf rb (t, free, k) = (both (expression e) _ (narrow env (length slots) few h e k.0 k.1) (named (Store x) (omega (arith, few, get_below slots x t free.0))), refl)
    stmt_narrow (if_block e body other) slots ret env os few h held (fa, fb) rb (k, ka, kb) =
        let a = block_narrow body slots ret env os few h held fa (below_left most_regions (tree.regions_of body) (tree.regions_or other) rb) ka in
        let b = other_narrow other body slots ret env os few h held fb (below_right most_regions (tree.regions_of body) (tree.regions_or other) rb) kb a.0 in
        (both (expression e) _ (narrow env (length slots) few h e k.0 k.1) b.0, drafts_both (regions_in body) (regions_in_other other) a.1 b.1)
    stmt_narrow (while_block e body) slots ret env os few h held rf rb (k, ka) =
        let a = block_narrow body slots ret env os few h held rf rb ka in
        (and_true (are_narrow (expression e) && are_narrow (block os body)) true (and_true (are_narrow (expression e)) (are_narrow (block os body)) (narrow env (length slots) few h e k.0 k.1) a.0) refl, a.1)
    stmt_narrow (return_value v) slots ret env os few h held rf rb k = (both (value_or_null v) _ (value_narrow env (length slots) few h ret v k) (both (gives_back os) (op Return) (back_narrow os held) refl), refl)
    stmt_narrow (throw_value e) slots ret env os few h held rf rb k = (both (expression e) _ (narrow env (length slots) few h e k.0 k.1) refl, refl)
    stmt_narrow (sync_block x e body) slots ret env os few h held rf rb (t, free, k, is, ka) =
        let lt : x < length slots = get_below slots x t free.0 in
        let a = block_narrow body slots ret (with_use env x (a_monitor t)) (x ∷ os) few (below_with (length slots) x env (a_monitor t) lt h) (omega (arith, few, lt), held) rf rb ka in
        let narrow_slot : x < 2 ^ 32 = omega (arith, few, lt) in (
          both (expression e) _ (narrow env (length slots) few h e _ k)
              (both (op (Store x)) (joined (op (Load x)) (joined (op EnterMonitor) (joined (block (x ∷ os) body) (joined (op (Load x)) (op LeaveMonitor))))) (named (Store x) narrow_slot)
              (both (op (Load x)) (joined (op EnterMonitor) (joined (block (x ∷ os) body) (joined (op (Load x)) (op LeaveMonitor)))) (named (Load x) narrow_slot)
              (both (op EnterMonitor) (joined (block (x ∷ os) body) (joined (op (Load x)) (op LeaveMonitor))) refl
              (both (block (x ∷ os) body) _ a.0
              (both (op (Load x)) (op LeaveMonitor) (named (Load x) narrow_slot) refl))))),
          a.1,
        )
    stmt_narrow (region_block m l c from own body x handler) slots ret env os few h held (of, fa, fb) (mb, rb) (ts, more, kl, kc, captured, is, ka, free, kb) =
        let q = captured_below env (length slots) from ts few h captured in
        let count : length ts ≤ length own = omega (arith, ap length is, length-append ts more) in
        let inside : Below (length own) (locals_of ts) = below_locals ts (length own) count in
        let lt : x < length own = get_below own x _ free.0 in
        let a = block_narrow body own in_region (locals_of ts) [] of inside tt fa (below_left most_regions (tree.regions_of body) (tree.regions_of handler) rb) ka in
        let b = block_narrow handler own in_region (with_use (locals_of ts) x (a_local int)) [] of (below_with (length own) x (locals_of ts) (a_local int) lt inside) tt fb (below_right most_regions (tree.regions_of body) (tree.regions_of handler) rb) kb in
        let unit : draft_narrow (region_draft m from own body x handler) ≡ true =
        draft_fits (region_draft m from own body x handler) (joined (block [] body) (joined (op LeaveRegion) (joined (op (Store x)) (joined (block [] handler) (op LeaveRegion))))) of
        (and_true (nat_lt m (2 ^ 32)) (nat_lt (length from) (2 ^ 32)) (below_wide m (omega (arith, mb))) (below_wide (length from) (omega (arith, q.1, count, of)))) refl
        (both (block [] body) _ a.0 (both (op LeaveRegion) (joined (op (Store x)) (joined (block [] handler) (op LeaveRegion))) refl (both (op (Store x)) (joined (block [] handler) (op LeaveRegion)) (named (Store x) (omega (arith, lt, of))) (both (block [] handler) (op LeaveRegion) b.0 refl)))) in (
          both (expression l) _ (narrow env (length slots) few h l kl.0 kl.1)
              (both (expression c) _ (narrow env (length slots) few h c kc.0 kc.1) (both (loads from) (op (EnterRegion m)) (loads_narrow from q.0) (named (EnterRegion m) (omega (arith, mb))))),
          and_true (draft_narrow (region_draft m from own body x handler)) (drafts_narrow (regions_in body ++ regions_in handler)) unit (drafts_both (regions_in body) (regions_in handler) a.1 b.1),
        )
    stmt_narrow (do_value e) slots ret env os few h held rf rb (g, k) = (both (expression e) _ (narrow env (length slots) few h e g k) refl, refl)
    stmt_narrow (set_local x e) slots ret env os few h held rf rb (t, at, k) = (both (expression e) _ (narrow env (length slots) few h e k.0 k.1) (named (Store x) (omega (arith, few, h x (a_local t) at))), refl)
    stmt_narrow (set_field e c f t v) slots ret env os few h held rf rb (k, field, kv) =
        (both (expression e) _ (narrow env (length slots) few h e _ k) (both (expression v) _ (narrow env (length slots) few h v kv.0 kv.1) (both (op (WriteBarrier 1)) (op (PutField f)) refl (named (PutField f) (field_below c f t field)))), refl)
    stmt_narrow (set_element e i t v) slots ret env os few h held rf rb (k, ki, kv) =
        (both (expression e) _ (narrow env (length slots) few h e _ k) (both (expression i) _ (narrow env (length slots) few h i ki.0 ki.1) (both (expression v) _ (narrow env (length slots) few h v kv.0 kv.1) refl)), refl)

    block_narrow : (b : Block) (slots : List ResolvedType) (ret : Returning) (env : Scope) (os : List ℕ) → length slots ≤ most_slots → Below (length slots) env → AllBelow most_slots os → BlockFits b → AllBelow most_regions (tree.regions_of b) → IsBlock p slots ret env b →
        Both (block os b) (regions_in b)
    block_narrow block_end slots ret env os few h held rf rb k = (refl, refl)
    block_narrow (block_more s rest) slots ret env os few h held (fa, fb) rb (ka, kb) =
        let a = stmt_narrow s slots ret env os few h held fa (below_left most_regions (tree.regions_in s) (tree.regions_of rest) rb) ka in
        let b = block_narrow rest slots ret (after slots env s) os few (below_after slots env s p ret h ka) held fb (below_right most_regions (tree.regions_in s) (tree.regions_of rest) rb) kb in
        (both (statement os s) (block os rest) a.0 b.0, drafts_both (regions_of s) (regions_in rest) a.1 b.1)

    -- both branches of an `if`
    other_narrow : (o : OtherBlock) (body : Block) (slots : List ResolvedType) (ret : Returning) (env : Scope) (os : List ℕ) → length slots ≤ most_slots → Below (length slots) env → AllBelow most_slots os → OtherFits o → AllBelow most_regions (tree.regions_or o) → IsOther p slots ret env o → are_narrow (block os body) ≡ true →
        Both (branches os body o) (regions_in_other o)
    other_narrow no_other body slots ret env os few h held rf rb k first = (and_true (are_narrow (block os body)) true first refl, refl)
    other_narrow (other_block other) body slots ret env os few h held rf rb k first =
        let b = block_narrow other slots ret env os few h held rf rb k in
        (and_true (are_narrow (block os body) && are_narrow (block os other)) true (and_true (are_narrow (block os body)) (are_narrow (block os other)) first b.0) refl, b.1)

  functions_narrow : (fs : List ResolvedFunction) → AreFunctions p fs → AllUnitsFit fs → AllBelow most_regions (function_regions fs) → (drafts_narrow (map function_draft fs) ≡ true) × (drafts_narrow (all_regions fs) ≡ true)
  functions_narrow [] h k rb = (refl, refl)
  functions_narrow (f ∷ fs) (h, hs) (k, ks) rb =
      let a = block_narrow f.body f.slots (in_function f.result) (locals_of f.params) [] k.slots (below_locals f.params (length f.slots) (omega (arith, ap length h.slots, length-append f.params h.more))) tt k.regions (below_left most_regions (tree.regions_of f.body) (function_regions fs) rb) h.body in
      let b = functions_narrow fs hs ks (below_right most_regions (tree.regions_of f.body) (function_regions fs) rb) in
      let unit : draft_narrow (function_draft f) ≡ true = draft_fits (function_draft f) (joined (block [] f.body) (joined (one (puts Nothing)) (op Return))) k.slots refl refl (both (block [] f.body) _ a.0 refl) in
      (and_true (draft_narrow (function_draft f)) (drafts_narrow (map function_draft fs)) unit b.0, drafts_both (regions_in f.body) (all_regions fs) a.1 b.1)

-- ---- how many units

mutual
  as_many_of : (s : Statement) → length (regions_of s) ≡ length (tree.regions_in s)
  as_many_of (let_slot x e) = refl
  as_many_of (if_block e body other) = omega (arith, length-append (regions_in body) (regions_in_other other), length-append (tree.regions_of body) (tree.regions_or other), as_many body, as_many_other other)
  as_many_of (while_block e body) = as_many body
  as_many_of (return_value v) = refl
  as_many_of (throw_value e) = refl
  as_many_of (sync_block x e body) = as_many body
  as_many_of (region_block m l c from own body x handler) = omega (arith, length-append (regions_in body) (regions_in handler), length-append (tree.regions_of body) (tree.regions_of handler), as_many body, as_many handler)
  as_many_of (do_value e) = refl
  as_many_of (set_local x e) = refl
  as_many_of (set_field e c f t v) = refl
  as_many_of (set_element e i t v) = refl

  as_many : (b : Block) → length (regions_in b) ≡ length (tree.regions_of b)
  as_many block_end = refl
  as_many (block_more s rest) = omega (arith, length-append (regions_of s) (regions_in rest), length-append (tree.regions_in s) (tree.regions_of rest), as_many_of s, as_many rest)

  as_many_other : (o : OtherBlock) → length (regions_in_other o) ≡ length (tree.regions_or o)
  as_many_other no_other = refl
  as_many_other (other_block body) = as_many body

all_as_many : (fs : List ResolvedFunction) → length (all_regions fs) ≡ length (function_regions fs)
all_as_many [] = refl
all_as_many (f ∷ fs) = omega (arith, length-append (regions_in f.body) (all_regions fs), length-append (tree.regions_of f.body) (function_regions fs), as_many f.body, all_as_many fs)

module _ (r : ResolvedTree) (typed : IsTypedTree r) (numbered : AreNumbered r) (limits : WithinLimits r) where
  pub all_narrow : drafts_narrow (drafts r) ≡ true
  all_narrow =
      let heads : length (map head_of r.functions) ≤ most_functions = omega (arith, length-map r.functions head_of, limits.functions) in
      let regions : AllBelow most_regions (function_regions r.functions) = subst (λ (l : List ℕ). AllBelow most_regions l) (sym numbered) (below_up most_regions 0 (length (tree.region_numbers r)) (omega (arith, limits.regions))) in
      let k = functions_narrow (heads_of r) limits.classes heads limits.fields r.functions typed.functions limits.units regions in
      narrow-append (map function_draft r.functions) (all_regions r.functions) ∙ and_true (drafts_narrow (map function_draft r.functions)) (drafts_narrow (all_regions r.functions)) k.0 k.1

  pub few_units : length (drafts r) < 65536
  few_units =
      omega
      (arith, length-append (map function_draft r.functions) (all_regions r.functions), length-map r.functions function_draft, all_as_many r.functions, limits.functions, limits.regions)
