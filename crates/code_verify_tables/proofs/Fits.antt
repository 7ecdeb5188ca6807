-- Operands and their places, one after another.
use Rattle.std.proofs.Common.{◌≡◌, ℕ, zero, suc, ◌+◌, ◌<◌, ◌≤◌, true, false, ◌&&◌, List, [], ◌∷◌, Some, None, length, get_or, drop, slice_get, refl, ap, ap₂, ◌∙◌, arith}
use Rattle.std.proofs.lemmas.List.{drop_more, drop_all}
use Rattle.std.proofs.lemmas.Option.{slice_get_within, get_or_from_slice_get}
use Rattle.guarded_code.specs.declared.known.Operand.{Operand}
use Rattle.guarded_code.specs.Changes.{Place}
use Rattle.guarded_code.specs.Breaks.{fits, all_fit}

past : {A : Type 0} (xs : List A) (i : ℕ) → slice_get xs i ≡ None → length xs ≤ i
past [] i e = omega arith
past (x ∷ xs) zero e = absurd (cc e)
past (x ∷ xs) (suc i) e = let le : length xs ≤ i = past xs i e in omega (arith, le)

-- no place is left
pub fits_end : (ps : List Place) (os : List Operand) (i : ℕ) → slice_get ps i ≡ None → all_fit (drop i ps) os ≡ true
fits_end ps os i e = ap (λ xs. all_fit xs os) (drop_all i ps (past ps i e))

nothing_fits : (ps : List Place) → all_fit ps [] ≡ true
nothing_fits [] = refl
nothing_fits (p ∷ ps) = refl

-- no operand is left
pub fits_over : (ps : List Place) (os : List Operand) (i : ℕ) → length os ≤ i → all_fit (drop i ps) (drop i os) ≡ true
fits_over ps os i le = ap (all_fit (drop i ps)) (drop_all i os le) ∙ nothing_fits (drop i ps)

opened : (ps : List Place) (os : List Operand) (i : ℕ) (p : Place) (d : Operand) → slice_get ps i ≡ Some p → i < length os → all_fit (drop i ps) (drop i os) ≡ (fits p (get_or os i d).known.kind && all_fit (drop (i + 1) ps) (drop (i + 1) os))
opened ps os i p d ep lt =
    let e : drop i ps ≡ p ∷ drop (i + 1) ps = drop_more ps i p (slice_get_within ps i p ep) ∙ ap (λ x. x ∷ drop (i + 1) ps) (get_or_from_slice_get ps i p p ep) in
    ap₂ all_fit e (drop_more os i d lt)

pub fits_next : (ps : List Place) (os : List Operand) (i : ℕ) (p : Place) (d : Operand) → slice_get ps i ≡ Some p → i < length os → fits p (get_or os i d).known.kind ≡ true → all_fit (drop i ps) (drop i os) ≡ all_fit (drop (i + 1) ps) (drop (i + 1) os)
fits_next ps os i p d ep lt h = opened ps os i p d ep lt ∙ ap (λ b. b && all_fit (drop (i + 1) ps) (drop (i + 1) os)) h

pub fits_not : (ps : List Place) (os : List Operand) (i : ℕ) (p : Place) (d : Operand) → slice_get ps i ≡ Some p → i < length os → fits p (get_or os i d).known.kind ≡ false → all_fit (drop i ps) (drop i os) ≡ false
fits_not ps os i p d ep lt h = opened ps os i p d ep lt ∙ ap (λ b. b && all_fit (drop (i + 1) ps) (drop (i + 1) os)) h
