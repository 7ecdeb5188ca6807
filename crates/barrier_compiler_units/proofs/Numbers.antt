-- Constants and their numbers, as more constants come.
use Rattle.std.proofs.Common.{◌≡◌, ℕ, suc, ◌+◌, ◌<◌, ◌≤◌, map, take, get_or, take_all, add-one, Bool, true, false, List, [], ◌∷◌, ◌++◌, length, if◌then◌else◌, refl, sym, ap, ◌∙◌, subst, append_assoc, append-nil, true≢false, arith, length-append}
use Rattle.std.proofs.Math.Seq.{take-suc}
use Rattle.std.proofs.lemmas.List.{map-append}
use Rattle.barrier_compiler_ops.specs.declared.instruction.Instruction.{Instruction}
use Rattle.barrier_compiler_ops.specs.Views.{flat_view}
use Rattle.lam_value.specs.declared.values.Value.{Value}
use Rattle.thread_steps.specs.Equal.{same_values}
use Rattle.lam_bytecode.specs.declared.op.Op.{Op}
use Rattle.lam_bytecode.specs.declared.op.Op.TheVariants.{Const}
use Rattle.lam_meaning.specs.Pieces.{Flat, an_op, a_constant, is_in, with_constant, constants_in, place_of, numbered}
use Rattle.barrier_compiler_units.specs.Adds.{AreIn}

-- these constants with more behind them
pub record Grows (vs ws : List Value) : Type 0 where
  pub more : List Value
  pub is : ws ≡ vs ++ more

pub stays : (vs : List Value) → Grows vs vs
stays vs = record { more = []; is = sym (append-nil vs) }

pub further : {vs ws us : List Value} → Grows vs ws → Grows ws us → Grows vs us
further {vs = vs} g h = record { more = g.more ++ h.more; is = h.is ∙ ap (λ l. l ++ h.more) g.is ∙ append_assoc vs g.more h.more }

grows_if : (b : Bool) (vs : List Value) (v : Value) → Grows vs (if b then vs else vs ++ v ∷ [])
grows_if true vs v = stays vs
grows_if false vs v = record { more = v ∷ []; is = refl }

grows_with : (vs : List Value) (v : Value) → Grows vs (with_constant vs v)
grows_with vs v = grows_if (is_in v vs) vs v

pub grows_in : (vs : List Value) (fs : List Flat) → Grows vs (constants_in vs fs)
grows_in vs [] = stays vs
grows_in vs (an_op o ∷ fs) = grows_in vs fs
grows_in vs (a_constant v ∷ fs) = further (grows_with vs v) (grows_in (with_constant vs v) fs)

-- ---- a constant that is there stays at its place

in_more : (vs more : List Value) (v : Value) → is_in v vs ≡ true → is_in v (vs ++ more) ≡ true
in_more [] more v h = absurd (true≢false (sym h))
in_more (w ∷ ws) more v h = by (same_values v w) h (in_more ws more v)
  where
    by : (b : Bool) → (if b then true else is_in v ws) ≡ true → (is_in v ws ≡ true → is_in v (ws ++ more) ≡ true) → (if b then true else is_in v (ws ++ more)) ≡ true
    by true h rest = refl
    by false h rest = rest h

pub place_more : (vs more : List Value) (v : Value) → is_in v vs ≡ true → place_of (vs ++ more) v ≡ place_of vs v
place_more [] more v h = absurd (true≢false (sym h))
place_more (w ∷ ws) more v h = by (same_values v w) h (place_more ws more v)
  where
    by : (b : Bool) → (if b then true else is_in v ws) ≡ true → (is_in v ws ≡ true → place_of (ws ++ more) v ≡ place_of ws v) → (if b then 0 else suc (place_of (ws ++ more) v)) ≡ (if b then 0 else suc (place_of ws v))
    by true h rest = refl
    by false h rest = ap suc (rest h)

are_in_more : (vs more : List Value) (fs : List Flat) → AreIn vs fs → AreIn (vs ++ more) fs
are_in_more vs more [] h = tt
are_in_more vs more (an_op o ∷ fs) h = are_in_more vs more fs h
are_in_more vs more (a_constant v ∷ fs) h = (in_more vs more v h.0, are_in_more vs more fs h.1)

numbered_more : (vs more : List Value) (fs : List Flat) → AreIn vs fs → numbered (vs ++ more) fs ≡ numbered vs fs
numbered_more vs more [] h = refl
numbered_more vs more (an_op o ∷ fs) h = ap (λ l. o ∷ l) (numbered_more vs more fs h)
numbered_more vs more (a_constant v ∷ fs) h =
    ap (λ n. Const n ∷ numbered (vs ++ more) fs) (place_more vs more v h.0) ∙ ap (λ l. Const (place_of vs v) ∷ l) (numbered_more vs more fs h.1)

pub still_in : {vs ws : List Value} (fs : List Flat) → Grows vs ws → AreIn vs fs → AreIn ws fs
still_in {vs = vs} fs g h = subst (λ (l : List Value). AreIn l fs) (sym g.is) (are_in_more vs g.more fs h)

pub numbered_alike : {vs ws : List Value} (fs : List Flat) → Grows vs ws → AreIn vs fs → numbered ws fs ≡ numbered vs fs
numbered_alike {vs = vs} fs g h = ap (λ l. numbered l fs) g.is ∙ numbered_more vs g.more fs h

-- ---- code behind code

pub constants-append : (vs : List Value) (fs gs : List Flat) → constants_in vs (fs ++ gs) ≡ constants_in (constants_in vs fs) gs
constants-append vs [] gs = refl
constants-append vs (an_op o ∷ fs) gs = constants-append vs fs gs
constants-append vs (a_constant v ∷ fs) gs = constants-append (with_constant vs v) fs gs

numbered-append : (vs : List Value) (fs gs : List Flat) → numbered vs (fs ++ gs) ≡ numbered vs fs ++ numbered vs gs
numbered-append vs [] gs = refl
numbered-append vs (an_op o ∷ fs) gs = ap (λ l. o ∷ l) (numbered-append vs fs gs)
numbered-append vs (a_constant v ∷ fs) gs = ap (λ l. Const (place_of vs v) ∷ l) (numbered-append vs fs gs)

are_in-append : (vs : List Value) (fs gs : List Flat) → AreIn vs fs → AreIn vs gs → AreIn vs (fs ++ gs)
are_in-append vs [] gs h k = k
are_in-append vs (an_op o ∷ fs) gs h k = are_in-append vs fs gs h k
are_in-append vs (a_constant v ∷ fs) gs h k = (h.0, are_in-append vs fs gs h.1 k)

-- code that is numbered, with these constants from those before it
pub record Numbers (old new : List Value) (fs : List Flat) (made : List Op) : Type 0 where
  pub constants : new ≡ constants_in old fs
  pub ops : made ≡ numbered new fs
  pub all_in : AreIn new fs
  pub room : length new ≤ length old + length fs

pub no_code : (vs : List Value) → Numbers vs vs [] []
no_code vs = record { constants = refl; ops = refl; all_in = tt; room = omega arith }

pub one_more : {old mid new : List Value} {fs : List Flat} {ops : List Op} (f : Flat) (o : Op) → Numbers old mid fs ops → new ≡ constants_in mid (f ∷ []) → o ∷ [] ≡ numbered new (f ∷ []) → AreIn new (f ∷ []) → length new ≤ length mid + 1 →
    Numbers old new (fs ++ f ∷ []) (ops ++ o ∷ [])
one_more {old = old} {mid = mid} {new = new} {fs = fs} {ops = ops} f o n e p a r =
    let g : Grows mid new = subst (λ (l : List Value). Grows mid l) (sym e) (grows_in mid (f ∷ [])) in
    record {
      constants = e ∙ ap (λ l. constants_in l (f ∷ [])) n.constants ∙ sym (constants-append old fs (f ∷ []));
      ops = ap (λ l. l ++ o ∷ []) (n.ops ∙ sym (numbered_alike fs g n.all_in)) ∙ ap (λ l. numbered new fs ++ l) p ∙ sym (numbered-append new fs (f ∷ []));
      all_in = are_in-append new fs (f ∷ []) (still_in fs g n.all_in) a;
      room = omega (arith, r, n.room, length-append fs (f ∷ []));
    }

-- one more instruction of some code
pub next_op : {old mid new : List Value} {ops : List Op} (code : List Instruction) (i : ℕ) (x : Instruction) (o : Op) → i < length code → x ≡ get_or code i x → Numbers old mid (map flat_view (take i code)) ops → new ≡ constants_in mid (flat_view x ∷ []) →
    o ∷ [] ≡ numbered new (flat_view x ∷ []) → AreIn new (flat_view x ∷ []) → length new ≤ length mid + 1 → Numbers old new (map flat_view (take (i + 1) code)) (ops ++ o ∷ [])
next_op {old = old} {new = new} {ops = ops} code i x o h is n e p a r =
    let t : take (i + 1) code ≡ take i code ++ x ∷ [] = rw (add-one) (take-suc code i x h ∙ ap (λ y. take i code ++ y ∷ []) (sym is)) in
    let m : map flat_view (take (i + 1) code) ≡ map flat_view (take i code) ++ flat_view x ∷ [] = ap (map flat_view) t ∙ map-append flat_view (take i code) (x ∷ []) in
    subst (λ (l : List Flat). Numbers old new l (ops ++ o ∷ [])) (sym m) (one_more (flat_view x) o n e p a r)

pub whole_code : {old new : List Value} {ops : List Op} (code : List Instruction) (i : ℕ) → length code ≤ i → Numbers old new (map flat_view (take i code)) ops → Numbers old new (map flat_view code) ops
whole_code {old = old} {new = new} {ops = ops} code i h n = subst (λ (l : List Instruction). Numbers old new (map flat_view l) ops) (take_all i code h) n

pub fits : (a b m n i : ℕ) → a ≤ b + i → i < n → b + n < m → a + 1 < m
fits a b m n i h k l = omega (arith, h, k, l)

pub with_ops : {old new : List Value} {fs : List Flat} {xs ys : List Op} → xs ≡ ys → Numbers old new fs ys → Numbers old new fs xs
with_ops {old = old} {new = new} {fs = fs} e n = subst (λ (l : List Op). Numbers old new fs l) (sym e) n
