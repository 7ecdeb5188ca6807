-- Each constant of the scheme's code stands at its place.
use Rattle.std.proofs.Common.{◌≡◌, ℕ, zero, suc, Bool, true, false, List, [], ◌∷◌, ◌++◌, Some, refl, sym, ap, subst}
use Rattle.std.proofs.lemmas.Bool.Decides.{Decides-int_eq}
use Rattle.std.proofs.lemmas.Cmp.{int_eq_equiv}
use Rattle.std.proofs.lemmas.Slice.Eq.{bytes_eq-Decides}
use Rattle.std.proofs.lemmas.Option.{same_Some}
use Rattle.std.specs.Prelude.{if◌then◌else◌, slice_get}
use Rattle.lam_value.specs.declared.values.Value.{Value}
use Rattle.lam_value.specs.declared.values.Value.TheVariants.{Int, Bool as Truth, Bytes, Nothing}
use Rattle.lam_bytecode.specs.Codes.{IsConstant}
use Rattle.thread_steps.specs.Equal.{same_values}
use Rattle.lam_meaning_typed.specs.Pieces.{Flat, an_op, a_constant, is_in, with_constant, constants_in, place_of}
use Rattle.lam_meaning_typed.specs.Scheme.{Draft, all_constants}

itself : (v : Value) → IsConstant v → same_values v v ≡ true
itself (Int n) h = int_eq_equiv.refl n
itself (Truth true) h = refl
itself (Truth false) h = refl
itself (Bytes bs) h = (bytes_eq-Decides bs bs).1 refl
itself Nothing h = refl
itself v h = absurd h

exact : (v w : Value) → IsConstant v → same_values v w ≡ true → v ≡ w
exact (Int m) (Int n) h e = ap (λ z. Int z) ((Decides-int_eq m n).0 e)
exact (Int m) w h e = absurd cc
exact (Truth true) (Truth true) h e = refl
exact (Truth false) (Truth false) h e = refl
exact (Truth true) (Truth false) h e = absurd cc
exact (Truth false) (Truth true) h e = absurd cc
exact (Truth a) w h e = absurd cc
exact (Bytes a) (Bytes b) h e = ap (λ bs. Bytes bs) ((bytes_eq-Decides a b).0 e)
exact (Bytes a) w h e = absurd cc
exact Nothing Nothing h e = refl
exact Nothing w h e = absurd cc
exact v w h e = absurd h

-- a constant that is among others stands at its place
pub place_there : (vs : List Value) (v : Value) → IsConstant v → is_in v vs ≡ true → slice_get vs (place_of vs v) ≡ Some v
place_there [] v h e = absurd cc
place_there (w ∷ ws) v h e = go (same_values v w) refl e (λ e. place_there ws v h e)
  where
    go : (b : Bool) → same_values v w ≡ b → (if b then true else is_in v ws) ≡ true → (is_in v ws ≡ true → slice_get ws (place_of ws v) ≡ Some v) → slice_get (w ∷ ws) (if b then 0 else suc (place_of ws v)) ≡ Some v
    go true k e f = ap (λ (x : Value). Some x) (sym (exact v w h k))
    go false k e f = f e

in_more : (vs more : List Value) (v : Value) → is_in v vs ≡ true → is_in v (vs ++ more) ≡ true
in_more [] more v e = absurd cc
in_more (w ∷ ws) more v e = go (same_values v w) e (λ e. in_more ws more v e)
  where
    go : (b : Bool) → (if b then true else is_in v ws) ≡ true → (is_in v ws ≡ true → is_in v (ws ++ more) ≡ true) → (if b then true else is_in v (ws ++ more)) ≡ true
    go true e f = refl
    go false e f = f e

in_last : (vs : List Value) (v : Value) → IsConstant v → is_in v (vs ++ v ∷ []) ≡ true
in_last [] v h = ap (λ b. if b then true else false) (itself v h)
in_last (w ∷ ws) v h = go (same_values v w) (in_last ws v h)
  where
    go : (b : Bool) → is_in v (ws ++ v ∷ []) ≡ true → (if b then true else is_in v (ws ++ v ∷ [])) ≡ true
    go true f = refl
    go false f = f

in_with : (vs : List Value) (v w : Value) → is_in v vs ≡ true → is_in v (with_constant vs w) ≡ true
in_with vs v w e = go (is_in w vs)
  where
    go : (b : Bool) → is_in v (if b then vs else vs ++ w ∷ []) ≡ true
    go true = e
    go false = in_more vs (w ∷ []) v e

in_own : (vs : List Value) (v : Value) → IsConstant v → is_in v (with_constant vs v) ≡ true
in_own vs v h = go (is_in v vs) refl
  where
    go : (b : Bool) → is_in v vs ≡ b → is_in v (if b then vs else vs ++ v ∷ []) ≡ true
    go true e = e
    go false e = in_last vs v h

in_code : (vs : List Value) (fs : List Flat) (v : Value) → is_in v vs ≡ true → is_in v (constants_in vs fs) ≡ true
in_code vs [] v e = e
in_code vs (an_op o ∷ fs) v e = in_code vs fs v e
in_code vs (a_constant w ∷ fs) v e = in_code (with_constant vs w) fs v (in_with vs v w e)

in_drafts : (vs : List Value) (ds : List Draft) (v : Value) → is_in v vs ≡ true → is_in v (all_constants vs ds) ≡ true
in_drafts vs [] v e = e
in_drafts vs (d ∷ ds) v e = in_drafts (constants_in vs d.code) ds v (in_code vs d.code v e)

-- each constant of the code is among these
abbrev pub AllIn : List Value → List Flat → Type 0
AllIn vs [] = Unit {0}
AllIn vs (an_op o ∷ fs) = AllIn vs fs
AllIn vs (a_constant v ∷ fs) = (IsConstant v → is_in v vs ≡ true) × AllIn vs fs

all_more : (vs ws : List Value) (fs : List Flat) → ((v : Value) → is_in v vs ≡ true → is_in v ws ≡ true) → AllIn vs fs → AllIn ws fs
all_more vs ws [] f h = tt
all_more vs ws (an_op o ∷ fs) f h = all_more vs ws fs f h
all_more vs ws (a_constant v ∷ fs) f h = (λ c. f v (h.0 c), all_more vs ws fs f h.1)

all_own : (vs : List Value) (fs : List Flat) → AllIn (constants_in vs fs) fs
all_own vs [] = tt
all_own vs (an_op o ∷ fs) = all_own vs fs
all_own vs (a_constant v ∷ fs) = (λ c. in_code (with_constant vs v) fs v (in_own vs v c), all_own (with_constant vs v) fs)

pub draft_constants : (vs : List Value) (ds : List Draft) (i : ℕ) (d : Draft) → slice_get ds i ≡ Some d → AllIn (all_constants vs ds) d.code
draft_constants vs [] i d e = absurd cc
draft_constants vs (x ∷ ds) zero d e =
    subst (λ (d : Draft). AllIn (all_constants (constants_in vs x.code) ds) d.code) (same_Some x d e)
    (all_more (constants_in vs x.code) (all_constants (constants_in vs x.code) ds) x.code (λ v k. in_drafts (constants_in vs x.code) ds v k) (all_own vs x.code))
draft_constants vs (x ∷ ds) (suc i) d e = draft_constants (constants_in vs x.code) ds i d e
