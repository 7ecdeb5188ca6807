-- What the words of a form are, and what holds of the form that words are in.
use Rattle.std.proofs.Common.{◌≡◌, ℕ, zero, suc, ◌+◌, true, false, Bool, cond, if◌then◌else◌, List, [], ◌∷◌, length, Option, Some, None, Result, Ok, Err, IsOk, IfErr, ok_or, find, slice_get, refl, subst, arith}
use Rattle.lam_main_words.specs.Forms.{Text, word, fits, agreed, is_in, longest, form_in}
use Rattle.lam_main_words.specs.declared.word_forms.Kind.{Kind}

-- the words of a form fit it
pub fits_at : (ks : List Kind) (ws : List Text) (i : ℕ) (k : Kind) → agreed ks ws ≡ length ks → slice_get ks i ≡ Some k → fits k (word ws i) ≡ true
fits_at [] ws i k e at = absurd (let no : ⊥ = cc in no)
fits_at (x ∷ ks) [] i k e at = absurd (let n : 0 ≡ suc (length ks) = e in omega (arith, n))
fits_at (x ∷ ks) (w ∷ ws) i k e at = go (fits x w) refl (λ j. fits_at ks ws j k) i e at
  where
    go : (b : Bool) → fits x w ≡ b → ((j : ℕ) → agreed ks ws ≡ length ks → slice_get ks j ≡ Some k → fits k (word ws j) ≡ true) → (j : ℕ) → (if b then 1 + agreed ks ws else 0) ≡ length (x ∷ ks) → slice_get (x ∷ ks) j ≡ Some k → fits k (word (w ∷ ws) j) ≡ true
    go true f rest zero e at = subst (λ (y : Kind). fits y w ≡ true) (let same : x ≡ k = cc in same) f
    go true f rest (suc j) e at = rest j (omega (arith, e)) at
    go false f rest j e at = absurd (omega (arith, e))

abbrev pub Each : {A : Type 0} → (A → Type 0) → List A → Type 0
Each P [] = Unit {0}
Each P (x ∷ xs) = P x × Each P xs

module _ {A : Type 0} (P : Option A → Type 0) (p : A → Bool) (none : P None) where
  of_test : (b : Bool) (x : A) (o : Option A) → p x ≡ b → (p x ≡ true → P (Some x)) → P o → P (cond b (Some x) o)
  of_test true x o e h k = h e
  of_test false x o e h k = k

  of_found : (xs : List A) → Each (λ x. p x ≡ true → P (Some x)) xs → P (find p xs)
  of_found [] h = none
  of_found (x ∷ xs) h = of_test (p x) x (find p xs) refl h.0 (of_found xs h.1)

-- what holds of each form that words are in, and where they are in none, holds of what is found
pub of_form : {F : Type 0} (kinds : F → List Kind) (forms : List F) (ws : List Text) (P : Result F ℕ → Type 0) → P (Err (longest kinds forms ws)) → Each (λ form. is_in ws (kinds form) ≡ true → P (Ok form)) forms → P (form_in kinds forms ws)
of_form kinds forms ws P none each = of_found (λ o. P (ok_or o (longest kinds forms ws))) (λ form. is_in ws (kinds form)) none forms each

-- want of memory comes only where words are in a form
pub none_named : {R : Type 0} (P : ℕ → Type 0) (request : Result R ℕ) → IsOk request → IfErr request P
none_named P (Ok r) ok = tt
none_named P (Err at) ok = absurd (let no_ok : ⊥ = cc in no_ok)
