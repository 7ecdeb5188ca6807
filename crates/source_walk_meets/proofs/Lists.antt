-- Lists: what stands at a place of a front, and counted numbers.
use Rattle.std.proofs.Common.{◌≡◌, inl, inr, ◌⊎◌, ℕ, zero, suc, ◌+◌, ◌<◌, List, [], ◌∷◌, ◌++◌, length, take, Some, refl, ap, ◌∙◌, subst, arith, ⊎_elim}
use Rattle.std.specs.Prelude.{slice_get, map}
use Rattle.std.proofs.lemmas.Option.{same_Some}
use Rattle.lam_bytecode.specs.Codes.{AreCounted}

-- what stands in a front of a list stands there in the list
pub front_get : {X : Type 0} (xs more : List X) (p : ℕ) → p < length xs → slice_get (xs ++ more) p ≡ slice_get xs p
front_get [] more p lt = absurd (omega (arith, lt))
front_get (x ∷ xs) more zero lt = refl
front_get (x ∷ xs) more (suc p) lt = front_get xs more p (omega (arith, lt))

pub take_get : {X : Type 0} (q p : ℕ) (xs : List X) → p < q → slice_get (take q xs) p ≡ slice_get xs p
take_get zero p xs lt = absurd (omega (arith, lt))
take_get (suc q) p [] lt = refl
take_get (suc q) zero (x ∷ xs) lt = refl
take_get (suc q) (suc p) (x ∷ xs) lt = take_get q p xs (omega (arith, lt))

-- what stands behind a front
pub behind_get : {X : Type 0} (xs : List X) (y : X) (ys : List X) → slice_get (xs ++ y ∷ ys) (length xs) ≡ Some y
behind_get [] y ys = refl
behind_get (x ∷ xs) y ys = behind_get xs y ys

-- fronts of one length of one list
head_of : {X : Type 0} (x y : X) (us vs : List X) → x ∷ us ≡ y ∷ vs → x ≡ y
head_of x y us vs e = cc

tail_of : {X : Type 0} (x y : X) (us vs : List X) → x ∷ us ≡ y ∷ vs → us ≡ vs
tail_of x y us vs e = cc

pub same_fronts : {X : Type 0} (xs ys more others : List X) → length xs ≡ length ys → xs ++ more ≡ ys ++ others → xs ≡ ys
same_fronts [] [] more others e s = refl
same_fronts [] (y ∷ ys) more others e s = absurd (omega (arith, e))
same_fronts (x ∷ xs) [] more others e s = absurd (omega (arith, e))
same_fronts (x ∷ xs) (y ∷ ys) more others e s =
    let rest : xs ≡ ys = same_fronts xs ys more others (omega (arith, e)) (tail_of x y (xs ++ more) (ys ++ others) s) in
    let first : x ≡ y = head_of x y (xs ++ more) (ys ++ others) s in
    ap (λ z. z ∷ xs) first ∙ ap (λ zs. y ∷ zs) rest

-- there is one at each place below the length
pub is_there : {X : Type 0} (xs : List X) (n : ℕ) → n < length xs → (x : X) × (slice_get xs n ≡ Some x)
is_there [] n lt = absurd (omega (arith, lt))
is_there (x ∷ xs) zero lt = (x, refl)
is_there (x ∷ xs) (suc n) lt = is_there xs n (omega (arith, lt))

-- ---- counted numbers

pub counted_get : (n : ℕ) (xs : List ℕ) (j u : ℕ) → AreCounted n xs → slice_get xs j ≡ Some u → u ≡ n + j
counted_get n [] j u h e = absurd cc
counted_get n (x ∷ xs) zero u h e = let z = same_Some x u e in omega (arith, z, h.0)
counted_get n (x ∷ xs) (suc j) u h e = let z = counted_get (suc n) xs j u h.1 e in omega (arith, z)

pub counted_append : (n : ℕ) (xs ys : List ℕ) → AreCounted n xs → AreCounted (n + length xs) ys → AreCounted n (xs ++ ys)
counted_append n [] ys h k = let none : n + 0 ≡ n = omega arith in subst (λ m. AreCounted m ys) none k
counted_append n (x ∷ xs) ys h k = let more : n + suc (length xs) ≡ suc n + length xs = omega arith in (h.0, counted_append (suc n) xs ys h.1 (subst (λ m. AreCounted m ys) more k))

-- ---- what stands in two lists, and in what is made of one

pub split_get : {X : Type 0} (xs ys : List X) (u : ℕ) (z : X) → slice_get (xs ++ ys) u ≡ Some z → (slice_get xs u ≡ Some z) ⊎ ((j : ℕ) × (u ≡ length xs + j) × (slice_get ys j ≡ Some z))
split_get [] ys u z e = inr (u, omega arith, e)
split_get (x ∷ xs) ys zero z e = inl e
split_get (x ∷ xs) ys (suc u) z e = ⊎_elim (λ h. inl h) (λ h. inr (h.0, omega (arith, h.1), h.2)) (split_get xs ys u z e)

pub made_get : {X Y : Type 0} (f : X → Y) (xs : List X) (j : ℕ) (y : Y) → slice_get (map f xs) j ≡ Some y → (x : X) × (slice_get xs j ≡ Some x) × (f x ≡ y)
made_get f [] j y e = absurd cc
made_get f (x ∷ xs) zero y e = (x, refl, cc)
made_get f (x ∷ xs) (suc j) y e = made_get f xs j y e
