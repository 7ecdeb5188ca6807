-- The pool's map has each constant at its place, as the scheme has it.
use Rattle.std.proofs.Common.{◌≡◌, ℕ, suc, ◌+◌, ◌<◌, arith, Bool, true, false, cond, List, [], ◌∷◌, ◌++◌, length, length-append, Some, None, if◌then◌else◌, refl, sym, ap, ◌∙◌, subst}
use Rattle.std.specs.BTreeMap.{BTreeMap, get, is_at}
use Rattle.std.specs.Map.{lookup}
use Rattle.std.specs.List.{AllByRecursion}
use Rattle.std.specs.Ordering.{is_eq}
use Rattle.std.specs.Cmp.Lexicographic.{texts_ties}
use Rattle.std.proofs.lemmas.Cmp.{int_eq_equiv, nat_list_eq_equiv}
use Rattle.std.proofs.lemmas.Bool.Decides.{Decides-int_eq}
use Rattle.std.proofs.lemmas.Slice.Eq.{bytes_eq-Decides}
use Rattle.lam_value.specs.declared.values.Value.{Value}
use Rattle.lam_value.specs.declared.values.Value.TheVariants.{Int as an_int, Bytes as some_bytes}
use Rattle.thread_steps.specs.Equal.{same_values}
use Rattle.lam_bytecode.specs.Codes.{IsConstant}
use Rattle.lam_meaning.specs.Pieces.{is_in, place_of}
use Rattle.barrier_compiler_ops.specs.declared.instruction.Constant.{Constant}
use Rattle.barrier_compiler_ops.specs.declared.instruction.Constant.TheVariants.{Int, Bool as Truth, Bytes, Nothing}
use Rattle.barrier_compiler_ops.specs.Views.{constant_value}
use Rattle.barrier_compiler_units.specs.Places.{constant_cmp, found_in, AreKept, Places}
use Rattle.barrier_compiler_units.proofs.Numbers.{place_more}

-- ---- equal constants

itself : (k : Constant) → same_values (constant_value k) (constant_value k) ≡ true
itself (Int n) = int_eq_equiv.refl n
itself (Bytes v) = (bytes_eq-Decides v.items v.items).1 refl
itself (Truth true) = refl
itself k = refl

turned : (a b : Constant) → same_values (constant_value a) (constant_value b) ≡ same_values (constant_value b) (constant_value a)
turned (Int m) (Int n) = int_eq_equiv.symm m n
turned (Bytes v) (Bytes w) = nat_list_eq_equiv.symm v.items w.items
turned (Truth true) (Truth true) = refl
turned (Truth true) (Truth false) = refl
turned (Truth false) (Truth true) = refl
turned Nothing Nothing = refl
turned a b = refl

exact : (a b : Constant) → same_values (constant_value a) (constant_value b) ≡ true → constant_value a ≡ constant_value b
exact (Int m) (Int n) e = ap an_int ((Decides-int_eq m n).0 e)
exact (Int m) b e = absurd cc
exact (Bytes v) (Bytes w) e = ap some_bytes ((bytes_eq-Decides v.items w.items).0 e)
exact (Bytes v) b e = absurd cc
exact (Truth true) (Truth true) e = refl
exact (Truth true) b e = absurd cc
exact (Truth false) (Truth false) e = refl
exact (Truth false) b e = absurd cc
exact Nothing Nothing e = refl
exact Nothing b e = absurd cc

-- when the map takes two constants for one
ties : (a b : Constant) → is_eq (constant_cmp a b) ≡ same_values (constant_value a) (constant_value b)
ties (Int m) (Int n) = refl
ties (Bytes v) (Bytes w) = sym (texts_ties v.items w.items)
ties (Truth true) (Truth true) = refl
ties (Truth true) (Truth false) = refl
ties (Truth false) (Truth true) = refl
ties (Truth false) (Truth false) = refl
ties Nothing Nothing = refl
ties a b = refl

is_constant : (k : Constant) → IsConstant (constant_value k)
is_constant (Int n) = tt
is_constant (Truth b) = tt
is_constant (Bytes v) = tt
is_constant Nothing = tt

-- ---- a constant at the end

in_last : (vs : List Value) (k : Constant) → is_in (constant_value k) (vs ++ constant_value k ∷ []) ≡ true
in_last [] k = ap (λ b. if b then true else false) (itself k)
in_last (w ∷ ws) k = go (same_values (constant_value k) w) (in_last ws k)
  where
    go : (b : Bool) → is_in (constant_value k) (ws ++ constant_value k ∷ []) ≡ true → (if b then true else is_in (constant_value k) (ws ++ constant_value k ∷ [])) ≡ true
    go true h = refl
    go false h = h

place_last : (vs : List Value) (k : Constant) → is_in (constant_value k) vs ≡ false → place_of (vs ++ constant_value k ∷ []) (constant_value k) ≡ length vs
place_last [] k h = ap (λ b. if b then 0 else suc 0) (itself k)
place_last (w ∷ ws) k h = go (same_values (constant_value k) w) h (place_last ws k)
  where
    go : (b : Bool) → (if b then true else is_in (constant_value k) ws) ≡ false → (is_in (constant_value k) ws ≡ false → place_of (ws ++ constant_value k ∷ []) (constant_value k) ≡ length ws) →
        (if b then 0 else suc (place_of (ws ++ constant_value k ∷ []) (constant_value k))) ≡ length (w ∷ ws)
    go true h f = absurd cc
    go false h f = ap suc (f h)

-- what stands behind the others is found there alone
in_others : (vs : List Value) (v u : Value) → same_values u v ≡ false → is_in u (vs ++ v ∷ []) ≡ is_in u vs
in_others [] v u e = ap (λ b. if b then true else false) e
in_others (w ∷ ws) v u e = ap (λ r. if same_values u w then true else r) (in_others ws v u e)

below : (vs : List Value) (v : Value) → is_in v vs ≡ true → place_of vs v < length vs
below [] v h = absurd cc
below (w ∷ ws) v h = go (same_values v w) h (below ws v)
  where
    go : (b : Bool) → (if b then true else is_in v ws) ≡ true → (is_in v ws ≡ true → place_of ws v < length ws) → (if b then 0 else suc (place_of ws v)) < length (w ∷ ws)
    go true h f = omega arith
    go false h f = let p = f h in omega arith

found_others : (vs : List Value) (v u : Value) → same_values u v ≡ false → found_in vs u ≡ found_in (vs ++ v ∷ []) u
found_others vs v u e = go (is_in u vs) (in_others vs v u e) (place_more vs (v ∷ []) u)
  where
    go : (b : Bool) → is_in u (vs ++ v ∷ []) ≡ b → (b ≡ true → place_of (vs ++ v ∷ []) u ≡ place_of vs u) → (if b then Some (place_of vs u) else None) ≡ found_in (vs ++ v ∷ []) u
    go true h f = sym (ap (λ c. if c then Some (place_of (vs ++ v ∷ []) u) else None) h ∙ ap Some (f refl))
    go false h f = sym (ap (λ c. if c then Some (place_of (vs ++ v ∷ []) u) else None) h)

found_last : (vs : List Value) (k : Constant) → is_in (constant_value k) vs ≡ false → Some (length vs) ≡ found_in (vs ++ constant_value k ∷ []) (constant_value k)
found_last vs k h = sym (ap (λ b. if b then Some (place_of (vs ++ constant_value k ∷ []) (constant_value k)) else None) (in_last vs k) ∙ ap Some (place_last vs k h))

found_more : (vs : List Value) (k q : Constant) → is_in (constant_value k) vs ≡ false → cond (is_eq (constant_cmp k q)) (Some (length vs)) (found_in vs (constant_value q)) ≡ found_in (vs ++ constant_value k ∷ []) (constant_value q)
found_more vs k q new = ap (λ b. cond b (Some (length vs)) (found_in vs (constant_value q))) (ties k q) ∙ go (same_values (constant_value k) (constant_value q)) refl
  where
    go : (b : Bool) → same_values (constant_value k) (constant_value q) ≡ b → cond b (Some (length vs)) (found_in vs (constant_value q)) ≡ found_in (vs ++ constant_value k ∷ []) (constant_value q)
    go true e = subst (λ (u : Value). Some (length vs) ≡ found_in (vs ++ constant_value k ∷ []) u) (exact k q e) (found_last vs k new)
    go false e = found_others vs (constant_value k) (constant_value q) (turned q k ∙ e)

-- ---- the map

pub kept_none : (places : BTreeMap Constant ℕ) (vs : List Value) → places.entries ≡ [] → vs ≡ [] → AreKept places vs
kept_none places vs empty none = record {
  constants = subst (λ (l : List Value). AllByRecursion IsConstant l) (sym none) tt;
  found = λ k. ap (lookup (is_at (constant_cmp k))) empty ∙ ap (λ l. found_in l (constant_value k)) (sym none);
}

all_last : (vs : List Value) (v : Value) → AllByRecursion IsConstant vs → IsConstant v → AllByRecursion IsConstant (vs ++ v ∷ [])
all_last [] v all is = (is, tt)
all_last (w ∷ ws) v all is = (all.0, all_last ws v all.1 is)

-- a new constant, kept after the others
pub kept_more : (old new : BTreeMap Constant ℕ) (vs ws : List Value) (k : Constant) (v u : Value) (n : ℕ) → AreKept old vs → is_in u vs ≡ false → constant_value k ≡ u → v ≡ u → n ≡ length vs → ws ≡ vs ++ v ∷ [] → ((q : Constant) → get constant_cmp new q ≡ cond (is_eq (constant_cmp k q)) (Some n) (get constant_cmp old q)) → AreKept new ws
kept_more old new vs ws k v u n kept none is same last made put =
    let all : ws ≡ vs ++ constant_value k ∷ [] = made ∙ ap (λ x. vs ++ x ∷ []) (same ∙ sym is) in
    let absent : is_in (constant_value k) vs ≡ false = ap (λ x. is_in x vs) is ∙ none in
    record {
      constants = subst (λ (l : List Value). AllByRecursion IsConstant l) (sym all) (all_last vs (constant_value k) kept.constants (is_constant k));
      found = λ q. put q ∙ ap (λ m. cond (is_eq (constant_cmp k q)) (Some m) (get constant_cmp old q)) last ∙ ap (cond (is_eq (constant_cmp k q)) (Some (length vs))) (kept.found q) ∙ found_more vs k q absent ∙ ap (λ l. found_in l (constant_value q)) (sym all);
    }

-- ---- what is found

found_place : (vs : List Value) (v : Value) (b : Bool) (n : ℕ) → is_in v vs ≡ b → Some n ≡ (if b then Some (place_of vs v) else None) → Places vs vs v n
found_place vs v true n h e = record {
  pool = sym (ap (λ b. if b then vs else vs ++ v ∷ []) h);
  place = cc;
  found = h;
  within = let p = below vs v h in let q : n ≡ place_of vs v = cc in omega arith;
  room = omega arith;
}
found_place vs v false n h e = absurd cc

-- the map has it
pub there : (places : BTreeMap Constant ℕ) (vs : List Value) (k : Constant) (n : ℕ) → AreKept places vs → Some n ≡ get constant_cmp places k → Places vs vs (constant_value k) n
there places vs k n kept e = found_place vs (constant_value k) (is_in (constant_value k) vs) n refl (e ∙ kept.found k)

-- the map has it not
pub not_there : (places : BTreeMap Constant ℕ) (vs : List Value) (k : Constant) → AreKept places vs → None ≡ get constant_cmp places k → is_in (constant_value k) vs ≡ false
not_there places vs k kept e = go (is_in (constant_value k) vs) (e ∙ kept.found k)
  where
    go : (b : Bool) → None ≡ (if b then Some (place_of vs (constant_value k)) else None) → b ≡ false
    go true h = absurd cc
    go false h = refl

pub placed_last : (vs ws : List Value) (k : Constant) (v : Value) (n : ℕ) → is_in (constant_value k) vs ≡ false → v ≡ constant_value k → n ≡ length vs → ws ≡ vs ++ v ∷ [] → Places vs ws (constant_value k) n
placed_last vs ws k v n none same last made =
    let all : ws ≡ vs ++ constant_value k ∷ [] = made ∙ ap (λ x. vs ++ x ∷ []) same in
    let long : length ws ≡ length vs + 1 = ap length all ∙ length-append vs (constant_value k ∷ []) in
    record {
      pool = all ∙ sym (ap (λ b. if b then vs else vs ++ constant_value k ∷ []) none);
      place = last ∙ sym (place_last vs k none) ∙ ap (λ l. place_of l (constant_value k)) (sym all);
      found = ap (is_in (constant_value k)) all ∙ in_last vs k;
      within = omega arith;
      room = omega arith;
    }
