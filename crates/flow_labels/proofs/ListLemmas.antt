-- Lists that are equal place by place.
use Rattle.std.proofs.Common.{◌≡◌, ◌≤◌, ◌+◌, ℕ, zero, suc, List, [], ◌∷◌, length, take, slice_get, refl, sym, ap, ◌∙◌, add-one, arith}
use Rattle.std.specs.Option.{unwrap_or}
use Rattle.std.proofs.lemmas.List.{take_all}

taken-suc : {X : Type 0} (xs ys : List X) (i : ℕ) → take i xs ≡ take i ys → slice_get xs i ≡ slice_get ys i → take (suc i) xs ≡ take (suc i) ys
taken-suc [] [] i same at = refl
taken-suc [] (y ∷ ys) zero same at = cc
taken-suc [] (y ∷ ys) (suc i) same at = cc
taken-suc (x ∷ xs) [] zero same at = cc
taken-suc (x ∷ xs) [] (suc i) same at = cc
taken-suc (x ∷ xs) (y ∷ ys) zero same at = let first : x ≡ y = ap (λ o. unwrap_or o x) at in ap (λ z. z ∷ []) first
taken-suc {X} (x ∷ xs) (y ∷ ys) (suc i) same at =
    let first : x ≡ y = ap (λ o. unwrap_or o x) (ap (λ zs. slice_get zs 0) same) in
    let rest : take i xs ≡ take i ys = ap (λ zs. behind zs) same in
    λ j. first j ∷ taken-suc xs ys i rest at j
  where
    behind : List X → List X
    behind [] = []
    behind (z ∷ zs) = zs

-- a place more at which two lists are equal
pub alike_more : {X : Type 0} (xs ys : List X) (i : ℕ) → take i xs ≡ take i ys → slice_get xs i ≡ slice_get ys i → take (i + 1) xs ≡ take (i + 1) ys
alike_more xs ys i same at = ap (λ n. take n xs) (add-one i) ∙ taken-suc xs ys i same at ∙ sym (ap (λ n. take n ys) (add-one i))

-- all places were compared
pub alike_all : {X : Type 0} (xs ys : List X) (i n : ℕ) → n ≤ i → n ≡ length xs → length xs ≡ length ys → take i xs ≡ take i ys → xs ≡ ys
alike_all xs ys i n le is long same = sym (take_all i xs (omega arith)) ∙ same ∙ take_all i ys (omega arith)
