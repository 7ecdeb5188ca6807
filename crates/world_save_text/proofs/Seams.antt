-- A text is UTF-8 on both sides of a `/` or on neither.
use Rattle.std.proofs.Common.{◌≡◌, ◌+◌, ◌<◌, ℕ, zero, suc, Bool, true, false, List, [], ◌∷◌, ◌++◌, length, drop, get_or, refl, sym, ap, ◌∙◌, subst, arith, add-one, length-append}
use Rattle.std.specs.Str.{IsUtf8, is_utf8, IsCharBoundary}
use Rattle.std.proofs.lemmas.Str.{IsUtf8-append, IsUtf8-drop, IsUtf8-encode, IsUtf8-from_is_utf8, is_utf8-from_IsUtf8, IsCharBoundary-after_ascii, encode_ascii}
use Rattle.std.specs.Char.{IsScalar}

slash : IsUtf8 (47 ∷ [])
slash = (47 ∷ [], (refl, ap (λ bytes. bytes ++ []) (encode_ascii 47 (omega arith))))

past : (xs ys : List ℕ) → drop (length xs + 1) (xs ++ 47 ∷ ys) ≡ ys
past [] ys = refl
past (x ∷ xs) ys = ap (λ n. drop n (x ∷ (xs ++ 47 ∷ ys))) (more (length xs)) ∙ past xs ys
  where
    more : (n : ℕ) → suc n + 1 ≡ suc (n + 1)
    more n = omega arith

there : (xs ys : List ℕ) → get_or (xs ++ 47 ∷ ys) (length xs) 0 ≡ 47
there [] ys = refl
there (x ∷ xs) ys = there xs ys

inside : (xs ys : List ℕ) → length xs < length (xs ++ 47 ∷ ys)
inside xs ys = let e = length-append xs (47 ∷ ys) in omega arith

module _ (xs ys : List ℕ) where
  after : IsUtf8 (xs ++ 47 ∷ ys) → IsUtf8 ys
  after u =
      let at = there xs ys in
      let edge = IsCharBoundary-after_ascii (xs ++ 47 ∷ ys) (length xs) u (inside xs ys) (omega (arith, at)) in
      subst IsUtf8 (past xs ys) (IsUtf8-drop (xs ++ 47 ∷ ys) (length xs + 1) u edge)

  whole : IsUtf8 xs → IsUtf8 ys → IsUtf8 (xs ++ 47 ∷ ys)
  whole u v = IsUtf8-append xs (47 ∷ ys) u (IsUtf8-append (47 ∷ []) ys slash v)

  pub seam : is_utf8 xs ≡ true → is_utf8 (xs ++ 47 ∷ ys) ≡ is_utf8 ys
  seam u = by (is_utf8 (xs ++ 47 ∷ ys)) (is_utf8 ys) refl refl
    where
      by : (a b : Bool) → is_utf8 (xs ++ 47 ∷ ys) ≡ a → is_utf8 ys ≡ b → a ≡ b
      by true true e f = refl
      by false false e f = refl
      by true false e f = let yes = is_utf8-from_IsUtf8 ys (after (IsUtf8-from_is_utf8 (xs ++ 47 ∷ ys) e)) in sym yes ∙ f
      by false true e f = let yes = is_utf8-from_IsUtf8 (xs ++ 47 ∷ ys) (whole (IsUtf8-from_is_utf8 xs u) (IsUtf8-from_is_utf8 ys f)) in sym e ∙ yes

pub not_utf8 : (bs : List ℕ) → (IsUtf8 bs → ⊥) → is_utf8 bs ≡ false
not_utf8 bs h = by (is_utf8 bs) refl
  where
    by : (b : Bool) → is_utf8 bs ≡ b → b ≡ false
    by true e = absurd (h (IsUtf8-from_is_utf8 bs e))
    by false e = refl
