-- Lists, options, and one change to a table.
use Rattle.std.proofs.Common.{◌≡◌, ℕ, zero, suc, ◌+◌, ◌<◌, List, [], ◌∷◌, Option, Some, None, length, slice_get, slice_set, refl, sym, ap, arith}
use Rattle.std.specs.Prelude.{◌*◌}
use Rattle.guarded_code.specs.Rounds.{Table, Found, Holds, Broke, and_then, OnFound, blank}

pub none_some : {A B : Type 0} {x : A} → None ≡ Some x → B
none_some e = absurd (cc e)

abbrev or_else : {A : Type 0} → Option A → A → A
or_else None d = d
or_else (Some x) d = x

pub some_inj : {A : Type 0} {x y : A} → Some x ≡ Some y → x ≡ y
some_inj {A} {x} e = ap (λ o. or_else o x) e

pub get_set_same : {A : Type 0} (xs : List A) (i : ℕ) (x y : A) → slice_get xs i ≡ Some y → slice_get (slice_set xs i x) i ≡ Some x
get_set_same [] i x y e = none_some e
get_set_same (z ∷ xs) zero x y e = refl
get_set_same (z ∷ xs) (suc i) x y e = get_set_same xs i x y e

pub get_set_other : {A : Type 0} (xs : List A) (i j : ℕ) (x : A) → (j ≡ i → ⊥) → slice_get (slice_set xs i x) j ≡ slice_get xs j
get_set_other (z ∷ xs) zero zero x ne = absurd (ne refl)
get_set_other (z ∷ xs) (suc i) (suc j) x ne = get_set_other xs i j x (λ e. ne (ap suc e))
get_set_other xs i j x ne = refl

pub set_same : {A : Type 0} (xs : List A) (i : ℕ) (x : A) → slice_get xs i ≡ Some x → slice_set xs i x ≡ xs
set_same [] i x e = refl
set_same (z ∷ xs) zero x e = ap (λ y. y ∷ xs) (sym (some_inj e))
set_same (z ∷ xs) (suc i) x e = ap (λ r. z ∷ r) (set_same xs i x e)

pub get_within : {A : Type 0} (xs : List A) (i : ℕ) → i < length xs → (x : A) × (slice_get xs i ≡ Some x)
get_within [] i lt = absurd (omega (arith, lt))
get_within (z ∷ xs) zero lt = (z, refl)
get_within (z ∷ xs) (suc i) lt = get_within xs i (omega (arith, lt))

pub then_on : {D : Type 0} (B : Type 0) (P Q : Table D → Type 0) (o : Found D) (go : Table D → Found D) → OnFound B o P → ((t : Table D) → P t → OnFound B (go t) Q) → OnFound B (and_then o go) Q
then_on B P Q (Holds t) go p h = h t p
then_on B P Q (Broke a) go p h = p

pub on_map : {D : Type 0} (B : Type 0) (P Q : Table D → Type 0) (o : Found D) → OnFound B o P → ((t : Table D) → P t → Q t) → OnFound B o Q
on_map B P Q (Holds t) p h = h t p
on_map B P Q (Broke a) p h = p

pub on_both : {D : Type 0} (B : Type 0) (P Q : Table D → Type 0) (o : Found D) → OnFound B o P → OnFound B o Q → OnFound B o (λ t. P t × Q t)
on_both B P Q (Holds t) p q = (p, q)
on_both B P Q (Broke a) p q = p

-- the addresses without a description
abbrev pub nones : {D : Type 0} → Table D → ℕ
nones [] = 0
nones (None ∷ t) = suc (nones t)
nones (Some d ∷ t) = nones t

-- what the table can still lose
abbrev pub worth : {D : Type 0} → (D → ℕ) → ℕ → Table D → ℕ
worth weight cap [] = 0
worth weight cap (None ∷ t) = cap + worth weight cap t
worth weight cap (Some d ∷ t) = weight d + worth weight cap t

pub nones_new : {D : Type 0} (t : Table D) (b : ℕ) (e : D) → slice_get t b ≡ Some None → suc (nones (slice_set t b (Some e))) ≡ nones t
nones_new [] b e h = none_some h
nones_new (None ∷ t) zero e h = refl
nones_new (Some d ∷ t) zero e h = none_some (sym (some_inj h))
nones_new (None ∷ t) (suc b) e h = ap suc (nones_new t b e h)
nones_new (Some d ∷ t) (suc b) e h = nones_new t b e h

pub nones_old : {D : Type 0} (t : Table D) (b : ℕ) (d e : D) → slice_get t b ≡ Some (Some d) → nones (slice_set t b (Some e)) ≡ nones t
nones_old (None ∷ t) zero d e h = none_some (some_inj h)
nones_old (None ∷ t) (suc b) d e h = ap suc (nones_old t b d e h)
nones_old (Some x ∷ t) (suc b) d e h = nones_old t b d e h
nones_old t b d e h = refl

pub worth_new : {D : Type 0} (weight : D → ℕ) (cap : ℕ) (t : Table D) (b : ℕ) (e : D) → slice_get t b ≡ Some None → weight e < cap → worth weight cap (slice_set t b (Some e)) < worth weight cap t
worth_new weight cap [] b e h lt = none_some h
worth_new weight cap (None ∷ t) zero e h lt = omega (arith, lt)
worth_new weight cap (Some d ∷ t) zero e h lt = none_some (sym (some_inj h))
worth_new weight cap (None ∷ t) (suc b) e h lt = omega (arith, worth_new weight cap t b e h lt)
worth_new weight cap (Some d ∷ t) (suc b) e h lt = omega (arith, worth_new weight cap t b e h lt)

pub worth_old : {D : Type 0} (weight : D → ℕ) (cap : ℕ) (t : Table D) (b : ℕ) (d e : D) → slice_get t b ≡ Some (Some d) → weight e < weight d → worth weight cap (slice_set t b (Some e)) < worth weight cap t
worth_old weight cap [] b d e h lt = none_some h
worth_old weight cap (None ∷ t) zero d e h lt = none_some (some_inj h)
worth_old weight cap (Some x ∷ t) zero d e h lt =
    let same : weight x ≡ weight d = ap weight (some_inj (some_inj h)) in omega (arith, lt, same)
worth_old weight cap (None ∷ t) (suc b) d e h lt = omega (arith, worth_old weight cap t b d e h lt)
worth_old weight cap (Some x ∷ t) (suc b) d e h lt = omega (arith, worth_old weight cap t b d e h lt)

-- ---- a table in which nothing stands
pub blank_none : {A D : Type 0} (n a : ℕ) (d : D) → slice_get (blank D n) a ≡ Some (Some d) → A
blank_none zero a d e = none_some e
blank_none (suc n) zero d e = none_some (some_inj e)
blank_none (suc n) (suc a) d e = blank_none n a d e

pub blank_long : (D : Type 0) (n : ℕ) → length (blank D n) ≡ n
blank_long D zero = refl
blank_long D (suc n) = ap suc (blank_long D n)

pub blank_nones : (D : Type 0) (n : ℕ) → nones (blank D n) ≡ n
blank_nones D zero = refl
blank_nones D (suc n) = ap suc (blank_nones D n)

pub blank_worth : {D : Type 0} (weight : D → ℕ) (cap n : ℕ) → worth weight cap (blank D n) ≡ n * cap
blank_worth weight cap zero = omega arith
blank_worth weight cap (suc n) = omega (arith, blank_worth weight cap n)
