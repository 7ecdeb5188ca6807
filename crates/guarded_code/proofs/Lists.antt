-- Laws of two lists, element by element.
use Rattle.std.proofs.Common.{◌≡◌, ℕ, zero, suc, ◌+◌, ◌<◌, ◌⊎◌, List, [], ◌∷◌, map, Option, Some, None, length, slice_get, slice_set, refl, sym, ap, ap₂, ◌∙◌, subst, arith, inl, inr, ⊎_elim}
use Rattle.std.specs.Prelude.{drop, unwrap_or}
use Rattle.guarded_code.specs.Descriptions.{put_before, met_lists}
use Rattle.guarded_code.specs.Changes.{at_place}
use Rattle.guarded_code.specs.Says.{Pairwise}
use Rattle.guarded_code.proofs.Tables.{none_some, some_inj}

pub each_same : {A : Type 0} (R : A → A → Type 0) → ((x : A) → R x x) → (xs : List A) → Pairwise R xs xs
each_same R h [] = tt
each_same R h (x ∷ xs) = (h x, each_same R h xs)

pub each_trans : {A B C : Type 0} (R : A → B → Type 0) (S : B → C → Type 0) (U : A → C → Type 0) → ((x : A) (y : B) (z : C) → R x y → S y z → U x z) → (xs : List A) (ys : List B) (zs : List C) → Pairwise R xs ys → Pairwise S ys zs → Pairwise U xs zs
each_trans R S U h [] [] [] r s = tt
each_trans R S U h [] (y ∷ ys) zs r s = absurd r
each_trans R S U h (x ∷ xs) [] zs r s = absurd r
each_trans R S U h (x ∷ xs) (y ∷ ys) (z ∷ zs) r s = (h x y z r.0 s.0, each_trans R S U h xs ys zs r.1 s.1)
each_trans R S U h xs ys zs r s = absurd s

pub cons_of : {A : Type 0} (x : A) (o : Option (List A)) (zs : List A) → put_before x o ≡ Some zs → (r : List A) × (o ≡ Some r) × (zs ≡ x ∷ r)
cons_of x None zs e = none_some e
cons_of x (Some r) zs e = (r, refl, sym (some_inj e))

pub each_first : {A : Type 0} (R : A → A → Type 0) (f : A → A → A) → ((x y : A) → R x (f x y)) → (xs ys zs : List A) → met_lists f xs ys ≡ Some zs → Pairwise R xs zs
each_first R f h [] [] zs e = subst (λ z. Pairwise R [] z) (some_inj e) tt
each_first R f h (x ∷ xs) (y ∷ ys) zs e =
    let c = cons_of (f x y) (met_lists f xs ys) zs e in
    subst (λ z. Pairwise R (x ∷ xs) z) (sym c.2) (h x y, each_first R f h xs ys c.0 c.1)
each_first R f h y xs zs e = none_some e

pub each_second : {A : Type 0} (R : A → A → Type 0) (f : A → A → A) → ((x y : A) → R y (f x y)) → (xs ys zs : List A) → met_lists f xs ys ≡ Some zs → Pairwise R ys zs
each_second R f h [] [] zs e = subst (λ z. Pairwise R [] z) (some_inj e) tt
each_second R f h (x ∷ xs) (y ∷ ys) zs e =
    let c = cons_of (f x y) (met_lists f xs ys) zs e in
    subst (λ z. Pairwise R (y ∷ ys) z) (sym c.2) (h x y, each_second R f h xs ys c.0 c.1)
each_second R f h y xs zs e = none_some e

pub each_best : {A : Type 0} (R : A → A → Type 0) (f : A → A → A) → ((x y z : A) → R x z → R y z → R (f x y) z) → (xs ys zs : List A) → Pairwise R xs zs → Pairwise R ys zs → (ms : List A) × (met_lists f xs ys ≡ Some ms) × Pairwise R ms zs
each_best R f h [] [] zs r s = ([], refl, r)
each_best R f h [] (y ∷ ys) [] r s = absurd s
each_best R f h (x ∷ xs) [] (z ∷ zs) r s = absurd s
each_best R f h (x ∷ xs) (y ∷ ys) (z ∷ zs) r s =
    let b = each_best R f h xs ys zs r.1 s.1 in
    (f x y ∷ b.0, ap (put_before (f x y)) b.1, (h x y z r.0 s.0, b.2))
each_best R f h y z xs r s = absurd r

abbrev pub total : {A : Type 0} → (A → ℕ) → List A → ℕ
total w [] = 0
total w (x ∷ xs) = w x + total w xs

pub pair_less : {A B : Type 0} (wa : A → ℕ) (wb : B → ℕ) (a a' : A) (b b' : B) → (a' ≡ a) ⊎ (wa a' < wa a) → (b' ≡ b) ⊎ (wb b' < wb b) → ((a' ≡ a) × (b' ≡ b)) ⊎ (wa a' + wb b' < wa a + wb b)
pair_less wa wb a a' b b' ha hb =
    ⊎_elim
    (λ ea. ⊎_elim (λ eb. inl (ea, eb)) (λ lb. let w : wa a' ≡ wa a = ap wa ea in inr (omega (arith, w, lb))) hb)
    (λ la. ⊎_elim (λ eb. let w : wb b' ≡ wb b = ap wb eb in inr (omega (arith, w, la))) (λ lb. inr (omega (arith, la, lb))) hb)
    ha

pub each_less : {A : Type 0} (w : A → ℕ) (f : A → A → A) → ((x y : A) → (f x y ≡ x) ⊎ (w (f x y) < w x)) → (xs ys zs : List A) → met_lists f xs ys ≡ Some zs → (zs ≡ xs) ⊎ (total w zs < total w xs)
each_less w f h [] [] zs e = inl (sym (some_inj e))
each_less w f h (x ∷ xs) (y ∷ ys) zs e =
    let c = cons_of (f x y) (met_lists f xs ys) zs e in
    ⊎_elim
    (λ both. inl (c.2 ∙ ap₂ (λ a b. a ∷ b) both.0 both.1))
    (λ lt. inr (subst (λ z. total w z < total w (x ∷ xs)) (sym c.2) lt))
    (pair_less w (total w) x (f x y) xs c.0 (h x y) (each_less w f h xs ys c.0 c.1))
each_less w f h y xs zs e = none_some e

pub each_long : {A : Type 0} (f : A → A → A) (xs ys zs : List A) → met_lists f xs ys ≡ Some zs → length zs ≡ length xs
each_long f [] [] zs e = ap length (sym (some_inj e))
each_long f (x ∷ xs) (y ∷ ys) zs e =
    let c = cons_of (f x y) (met_lists f xs ys) zs e in ap length c.2 ∙ ap suc (each_long f xs ys c.0 c.1)
each_long f xs ys zs e = none_some e

pub each_set : {A B : Type 0} (R : A → B → Type 0) (xs : List A) (ys : List B) (i : ℕ) (x : A) (y : B) → R x y → Pairwise R xs ys → Pairwise R (slice_set xs i x) (slice_set ys i y)
each_set R [] [] i x y h r = tt
each_set R (a ∷ xs) (b ∷ ys) zero x y h r = (h, r.1)
each_set R (a ∷ xs) (b ∷ ys) (suc i) x y h r = (r.0, each_set R xs ys i x y h r.1)
each_set R xs ys i x y h r = absurd r

pub each_map : {A B : Type 0} (R : A → A → Type 0) (S : B → B → Type 0) (f g : A → B) → ((x y : A) → R x y → S (f x) (g y)) → (xs ys : List A) → Pairwise R xs ys → Pairwise S (map f xs) (map g ys)
each_map R S f g h [] [] r = tt
each_map R S f g h (x ∷ xs) (y ∷ ys) r = (h x y r.0, each_map R S f g h xs ys r.1)
each_map R S f g h y xs r = absurd r

pub each_place : {A : Type 0} (R : A → A → Type 0) (f : A → A) → ((x y : A) → R x y → R (f x) (f y)) → (xs ys : List A) (i : ℕ) → Pairwise R xs ys → Pairwise R (at_place f i xs) (at_place f i ys)
each_place R f h [] [] i r = tt
each_place R f h (x ∷ xs) (y ∷ ys) zero r = (h x y r.0, r.1)
each_place R f h (x ∷ xs) (y ∷ ys) (suc i) r = (r.0, each_place R f h xs ys i r.1)
each_place R f h y xs i r = absurd r

-- one side grows
pub each_grow : {A : Type 0} (R : A → A → Type 0) (f : A → A) → ((x y : A) → R x y → R (f x) y) → (xs ys : List A) (i : ℕ) → Pairwise R xs ys → Pairwise R (at_place f i xs) ys
each_grow R f h [] [] i r = tt
each_grow R f h (x ∷ xs) (y ∷ ys) zero r = (h x y r.0, r.1)
each_grow R f h (x ∷ xs) (y ∷ ys) (suc i) r = (r.0, each_grow R f h xs ys i r.1)
each_grow R f h y xs i r = absurd r

pub long_place : {A : Type 0} (f : A → A) (i : ℕ) (xs : List A) → length (at_place f i xs) ≡ length xs
long_place f i [] = refl
long_place f zero (x ∷ xs) = refl
long_place f (suc i) (x ∷ xs) = ap suc (long_place f i xs)

pub each_long_same : {A B : Type 0} (R : A → B → Type 0) (xs : List A) (ys : List B) → Pairwise R xs ys → length xs ≡ length ys
each_long_same R [] [] r = refl
each_long_same R (x ∷ xs) (y ∷ ys) r = ap suc (each_long_same R xs ys r.1)
each_long_same R xs ys r = absurd r

pub each_drop : {A B : Type 0} (R : A → B → Type 0) (n : ℕ) (xs : List A) (ys : List B) → Pairwise R xs ys → Pairwise R (drop n xs) (drop n ys)
each_drop R zero xs ys r = r
each_drop R (suc n) [] [] r = tt
each_drop R (suc n) (x ∷ xs) (y ∷ ys) r = each_drop R n xs ys r.1
each_drop R (suc n) xs ys r = absurd r

-- what stands at a place, or else a value of each
pub each_or : {A B : Type 0} (R : A → B → Type 0) (a : A) (b : B) → R a b → (xs : List A) (ys : List B) (i : ℕ) → Pairwise R xs ys → R (unwrap_or (slice_get xs i) a) (unwrap_or (slice_get ys i) b)
each_or R a b h [] [] i r = h
each_or R a b h (x ∷ xs) (y ∷ ys) zero r = r.0
each_or R a b h (x ∷ xs) (y ∷ ys) (suc i) r = each_or R a b h xs ys i r.1
each_or R a b h xs ys i r = absurd r
