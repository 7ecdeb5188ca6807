-- Values of the types of the slots in scope.
use Rattle.std.proofs.Common.{◌≡◌, ℕ, zero, suc, ◌+◌, ◌<◌, Bool, true, false, List, [], ◌∷◌, ◌++◌, Option, Some, None, length, refl, sym, ap, ◌∙◌, subst, arith, length-append}
use Rattle.std.proofs.lemmas.Bool.{eqb-true, eq-eqb}
use Rattle.std.proofs.lemmas.Bool.Decides.{nat_tests}
use Rattle.std.proofs.lemmas.List.{length-replicate}
use Rattle.std.proofs.lemmas.Option.{none-some, same_Some, slice_get_within}
use Rattle.std.specs.Prelude.{if◌then◌else◌, nat_eq, slice_get, slice_set, replicate, ◌-◌, map}
use Rattle.lam_value.specs.declared.values.Value.{Value}
use Rattle.lam_value.specs.declared.values.Value.TheVariants.{Nothing}
use Rattle.lam_resolve_tree.specs.Tree.{ResolvedType, ResolvedTree, Statement, let_slot}
use Rattle.lam_resolve_tree.specs.Typing.{ResolvedSignatures, Use, a_local, a_monitor, Scope, with_use, locals_of, local_if, use_of, after, AreCaptured, Returning, IsStatement}
use Rattle.lam_meaning.specs.Trees.{Own, local, value_or_null}
use Rattle.lam_meaning_typed.specs.Kinds.{AreOf}
use Rattle.lam_meaning_typed.proofs.Sorts.{AreBy, Sorts}
use Rattle.lam_meaning_typed.proofs.Places.{kinds_are}

abbrev pub at_slot : List Value → ℕ → Value
at_slot l x = value_or_null (slice_get l x)

abbrev pub used_as : Use → ResolvedType
used_as (a_local t) = t
used_as (a_monitor t) = t

-- what is in scope stays so
abbrev pub Within : Scope → Scope → Type 0
Within env env' = (x : ℕ) (u : Use) → env x ≡ Some u → env' x ≡ Some u

-- ---- a slot is set

pub length-set_slot : (l : List Value) (x : ℕ) (v : Value) → length (slice_set l x v) ≡ length l
length-set_slot [] x v = refl
length-set_slot (a ∷ l) zero v = refl
length-set_slot (a ∷ l) (suc x) v = ap suc (length-set_slot l x v)

pub set_here : (l : List Value) (x : ℕ) (v : Value) → x < length l → at_slot (slice_set l x v) x ≡ v
set_here [] x v h = absurd (omega (arith, h))
set_here (a ∷ l) zero v h = refl
set_here (a ∷ l) (suc x) v h = set_here l x v (omega (arith, h))

pub set_apart : (l : List Value) (x y : ℕ) (v : Value) → nat_eq y x ≡ false → at_slot (slice_set l x v) y ≡ at_slot l y
set_apart (a ∷ l) zero zero v h = absurd (grind (arith, nat_tests, h))
set_apart (a ∷ l) (suc x) (suc y) v h = set_apart l x y v (grind (arith, nat_tests, h))
set_apart l x y v h = refl

pub slot_here : (env : Scope) (x : ℕ) (u : Use) → with_use env x u x ≡ Some u
slot_here env x u = ap (λ b. if b then Some u else env x) (eq-eqb x x refl)

pub within_new : (env : Scope) (x : ℕ) (t : Use) → env x ≡ None → Within env (with_use env x t)
within_new env x t none y u e = go (nat_eq y x) refl
  where
    go : (b : Bool) → nat_eq y x ≡ b → (if b then Some t else env y) ≡ Some u
    go true k = absurd (none-some u (sym none ∙ ap env (sym (eqb-true y x k)) ∙ e))
    go false k = e

within_old : (env : Scope) (x : ℕ) (t : Use) → env x ≡ Some t → Within env (with_use env x t)
within_old env x t some y u e = go (nat_eq y x) refl
  where
    go : (b : Bool) → nat_eq y x ≡ b → (if b then Some t else env y) ≡ Some u
    go true k = sym some ∙ ap env (sym (eqb-true y x k)) ∙ e
    go false k = e

-- ---- scopes

pub within_after : (p : ResolvedSignatures) (slots : List ResolvedType) (ret : Returning) (env : Scope) (s : Statement) → IsStatement p slots ret env s → Within env (after slots env s)
within_after p slots ret env (let_slot x e) h y u k = subst (λ m. use_of m env x y ≡ Some u) (sym h.1.0) (within_new env x (a_local h.0) h.1.1 y u k)
within_after p slots ret env s h y u k = k

-- ---- the locals at the head of a unit

pub length_are : (ts : List ResolvedType) (vs : List Value) → AreOf ts vs → length vs ≡ length ts
length_are [] [] h = refl
length_are [] (v ∷ vs) h = absurd h
length_are (t ∷ ts) [] h = absurd h
length_are (t ∷ ts) (v ∷ vs) h = ap suc (length_are ts vs h.1)

is_local : (o : Option ResolvedType) (u : Use) → local_if o ≡ Some u → (t : ResolvedType) × (o ≡ Some t) × (u ≡ a_local t)
is_local None u e = absurd cc
is_local (Some t) u e = (t, refl, sym (same_Some (a_local t) u e))

pub length-captured : (o : Own) (xs : List ℕ) → length (map (λ x. local o x) xs) ≡ length xs
length-captured o [] = refl
length-captured o (x ∷ xs) = ap suc (length-captured o xs)

-- ---- locals of the types of their slots

module _ {r : ResolvedTree} (S : Sorts r) (G : S.Known) where
  -- as many locals as the unit has, and those in scope are of their types
  pub record Fit (size : ℕ) (env : Scope) (l : List Value) : Type 0 where
    pub whole : length l ≡ size
    pub inside : (x : ℕ) (u : Use) → env x ≡ Some u → x < length l
    pub typed : (x : ℕ) (u : Use) → env x ≡ Some u → S.Is G (used_as u) (at_slot l x)

  pub fit_within : (size : ℕ) (env env' : Scope) (l : List Value) → Within env env' → Fit size env' l → Fit size env l
  fit_within size env env' l w h = record { whole = h.whole; inside = λ x t e. h.inside x t (w x t e); typed = λ x t e. h.typed x t (w x t e) }

  -- the slot is of its type, in the scope of before with the slot
  pub set_with : (size : ℕ) (env : Scope) (l : List Value) (x : ℕ) (t : Use) (v : Value) → x < size → S.Is G (used_as t) v → Fit size env l → Fit size (with_use env x t) (slice_set l x v)
  set_with size env l x t v lt is h =
      record {
        whole = length-set_slot l x v ∙ h.whole;
        inside = λ y u e. inside y u (nat_eq y x) refl e;
        typed = λ y u e. typed y u (nat_eq y x) refl e;
      }
    where
      here : x < length l
      here = subst (λ n. x < n) (sym h.whole) lt

      inside : (y : ℕ) (u : Use) (b : Bool) → nat_eq y x ≡ b → (if b then Some t else env y) ≡ Some u → y < length (slice_set l x v)
      inside y u true e k = subst (λ n. y < n) (sym (length-set_slot l x v)) (subst (λ z. z < length l) (sym (eqb-true y x e)) here)
      inside y u false e k = subst (λ n. y < n) (sym (length-set_slot l x v)) (h.inside y u k)

      typed : (y : ℕ) (u : Use) (b : Bool) → nat_eq y x ≡ b → (if b then Some t else env y) ≡ Some u → S.Is G (used_as u) (at_slot (slice_set l x v) y)
      typed y u true e k =
          subst (λ s. S.Is G (used_as s) (at_slot (slice_set l x v) y)) (same_Some t u k)
          (subst (λ z. S.Is G (used_as t) (at_slot (slice_set l x v) z)) (sym (eqb-true y x e)) (subst (λ w. S.Is G (used_as t) w) (sym (set_here l x v here)) is))
      typed y u false e k = subst (λ w. S.Is G (used_as u) w) (sym (set_apart l x y v e)) (h.typed y u k)

  pub set_old : (size : ℕ) (env : Scope) (l : List Value) (x : ℕ) (t : Use) (v : Value) → env x ≡ Some t → S.Is G (used_as t) v → Fit size env l → Fit size env (slice_set l x v)
  set_old size env l x t v e is h = fit_within size env (with_use env x t) (slice_set l x v) (within_old env x t e) (set_with size env l x t v (subst (λ n. x < n) h.whole (h.inside x t e)) is h)

  -- a `let`'s slot
  pub let_fit : (slots : List ResolvedType) (env : Scope) (l : List Value) (x : ℕ) (t : ResolvedType) (v : Value) → slice_get slots x ≡ Some t → S.Is G t v → Fit (length slots) env l → Fit (length slots) (use_of (slice_get slots x) env x) (slice_set l x v)
  let_fit slots env l x t v e is h = subst (λ m. Fit (length slots) (use_of m env x) (slice_set l x v)) (sym e) (set_with (length slots) env l x (a_local t) v (slice_get_within slots x t e) is h)

  head_typed : (ts : List ResolvedType) (vs more : List Value) → AreBy (S.Is G) ts vs → (x : ℕ) (t : ResolvedType) → slice_get ts x ≡ Some t → S.Is G t (at_slot (vs ++ more) x)
  head_typed [] vs more h x t e = absurd cc
  head_typed (u ∷ ts) [] more h x t e = absurd h
  head_typed (u ∷ ts) (v ∷ vs) more h zero t e = subst (λ s. S.Is G s v) (same_Some u t e) h.0
  head_typed (u ∷ ts) (v ∷ vs) more h (suc x) t e = head_typed ts vs more h.1 x t e

  -- the first values, and null in the other slots
  pub fit_head : (slots ts more : List ResolvedType) (vs : List Value) → slots ≡ ts ++ more → AreBy (S.Is G) ts vs → Fit (length slots) (locals_of ts) (vs ++ replicate (length slots - length vs) Nothing)
  fit_head slots ts more vs same h =
      record {
        whole = all;
        inside = λ x u e. let i = is_local (slice_get ts x) u e in let lt = slice_get_within ts x i.0 i.1 in subst (λ n. x < n) (sym all) (within x lt);
        typed = λ x u e. let i = is_local (slice_get ts x) u e in subst (λ u. S.Is G (used_as u) (at_slot (vs ++ nulls) x)) (sym i.2) (head_typed ts vs nulls h x i.0 i.1);
      }
    where
      nulls : List Value
      nulls = replicate (length slots - length vs) Nothing

      long : length slots ≡ length ts + length more
      long = ap length same ∙ length-append ts more

      all : length (vs ++ replicate (length slots - length vs) Nothing) ≡ length slots
      all =
          let a = length-append vs (replicate (length slots - length vs) Nothing) in
          let b = length-replicate (length slots - length vs) Nothing in
          let c = length_are ts vs (kinds_are S G ts vs h) in
          let d = long in
          omega (arith, a, b, c, d)

      within : (x : ℕ) → x < length ts → x < length slots
      within x lt = let d = long in omega (arith, lt, d)

  pub captured_are : (size : ℕ) (env : Scope) (o : Own) (xs : List ℕ) (ts : List ResolvedType) → AreCaptured env xs ts → Fit size env o.locals → AreBy (S.Is G) ts (map (λ x. local o x) xs)
  captured_are size env o [] [] h k = tt
  captured_are size env o [] (t ∷ ts) h k = absurd h
  captured_are size env o (x ∷ xs) [] h k = absurd h
  captured_are size env o (x ∷ xs) (t ∷ ts) h k = (k.typed x (a_local t) h.0, captured_are size env o xs ts h.1 k)

-- they stay so where more is known
pub fit_on : {r : ResolvedTree} (S : Sorts r) (G H : S.Known) → S.Grows G H → (size : ℕ) (env : Scope) (l : List Value) → Fit S G size env l → Fit S H size env l
fit_on S G H more size env l h = record { whole = h.whole; inside = h.inside; typed = λ x u e. S.is_on G H more (used_as u) (at_slot l x) (h.typed x u e) }
