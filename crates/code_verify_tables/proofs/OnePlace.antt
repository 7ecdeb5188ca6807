-- One place of a list changed, and each.
use Rattle.std.proofs.Common.{◌≡◌, ℕ, zero, suc, ◌+◌, ◌<◌, ◌≤◌, List, [], ◌∷◌, ◌++◌, length, get_or, set, slice_set, take, drop, map, refl, ap, ◌∙◌, arith, length-set}
use Rattle.std.proofs.lemmas.List.Edits.{map_over_more}
use Rattle.guarded_code.specs.Changes.{at_place}

pub place_set : {A : Type 0} (f : A → A) (xs : List A) (i : ℕ) (x : A) → i < length xs → x ≡ get_or xs i x → set xs i (f x) ≡ at_place f i xs
place_set f [] i x lt e = refl
place_set f (y ∷ xs) zero x lt e = ap (λ z. f z ∷ xs) e
place_set f (y ∷ xs) (suc i) x lt e = ap (λ r. y ∷ r) (place_set f xs i x (omega (arith, lt)) e)

pub place_past : {A : Type 0} (f : A → A) (xs : List A) (i : ℕ) → length xs ≤ i → at_place f i xs ≡ xs
place_past f [] i le = refl
place_past f (y ∷ xs) zero le = absurd (omega (arith, le))
place_past f (y ∷ xs) (suc i) le = ap (λ r. y ∷ r) (place_past f xs i (omega (arith, le)))

pub set_past : {A : Type 0} (xs : List A) (i : ℕ) (x : A) → length xs ≤ i → slice_set xs i x ≡ xs
set_past [] i x le = refl
set_past (y ∷ xs) zero x le = absurd (omega (arith, le))
set_past (y ∷ xs) (suc i) x le = ap (λ r. y ∷ r) (set_past xs i x (omega (arith, le)))

pub place_read : {A : Type 0} (f : A → A) (xs : List A) (i : ℕ) (x y : A) → i < length xs → x ≡ get_or xs i x → y ≡ f x → set xs i y ≡ at_place f i xs
place_read f xs i x y lt e h = ap (set xs i) h ∙ place_set f xs i x lt e

pub map_read : {A : Type 0} (f : A → A) (xs ys : List A) (n i : ℕ) (x y : A) → i < n → n ≡ length xs → (length ys ≡ length xs) × (ys ≡ map f (take i xs) ++ drop i xs) → x ≡ get_or ys i x → y ≡ f x → (length (set ys i y) ≡ length xs) × (set ys i y ≡ map f (take (i + 1) xs) ++ drop (i + 1) xs)
map_read f xs ys n i x y lt en inv e h =
    (length-set ys i y ∙ inv.0, ap (set ys i) h ∙ map_over_more f xs ys i x (omega (arith, lt, en)) inv.1 e)
