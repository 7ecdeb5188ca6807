-- New addresses, and a list that is sifted one by one.
use Rattle.std.proofs.Common.{◌≡◌, ℕ, zero, suc, ◌+◌, ◌<◌, ◌≤◌, List, [], ◌∷◌, ◌++◌, map, Bool, true, false, length, get_or, drop, refl, sym, ap, ◌∙◌, arith, append_assoc}
use Rattle.std.proofs.lemmas.List.{append-nil}
use Rattle.thinned_code.specs.Thinned.{moved, sifted}
use Rattle.barrier_thin.specs.Addresses.{counted, addresses_from, addresses, one_if}

pub addresses_long : (ks : List Bool) → length (addresses ks) ≡ length ks + 1
addresses_long ks = from 0 ks
  where
    from : (n : ℕ) (ks : List Bool) → length (addresses_from n ks) ≡ length ks + 1
    from n [] = omega arith
    from n (true ∷ ks) = omega (arith, from (n + 1) ks)
    from n (false ∷ ks) = omega (arith, from n ks)

address_at : (n : ℕ) (ks : List Bool) (a d : ℕ) → a ≤ length ks → get_or (addresses_from n ks) a d ≡ n + moved ks a
address_at n [] zero d le = omega arith
address_at n [] (suc a) d le = absurd (omega (arith, le))
address_at n (true ∷ ks) zero d le = omega arith
address_at n (false ∷ ks) zero d le = omega arith
address_at n (true ∷ ks) (suc a) d le = let ih = address_at (n + 1) ks a d (omega (arith, le)) in omega (arith, ih)
address_at n (false ∷ ks) (suc a) d le = address_at n ks a d (omega (arith, le))

past : (ks : List Bool) (a : ℕ) → length ks ≤ a → moved ks a ≡ moved ks (length ks)
past [] a le = refl
past (k ∷ ks) zero le = absurd (omega (arith, le))
past (true ∷ ks) (suc a) le = ap suc (past ks a (omega (arith, le)))
past (false ∷ ks) (suc a) le = past ks a (omega (arith, le))

pub moved_within : (ks : List Bool) (a d : ℕ) → a < length ks → get_or (addresses ks) a d ≡ moved ks a
moved_within ks a d lt = let at = address_at 0 ks a d (omega (arith, lt)) in omega (arith, at)

pub moved_past : (ks : List Bool) (a d : ℕ) → length ks ≤ a → get_or (addresses ks) (length ks) d ≡ moved ks a
moved_past ks a d le = let at = address_at 0 ks (length ks) d (omega arith) in omega (arith, at, past ks a le)

-- ---- one by one
one_next : (ks : List Bool) (i n : ℕ) (d : Bool) → i < length ks → addresses_from n (drop i ks) ≡ n ∷ addresses_from (counted (get_or ks i d) n) (drop (suc i) ks)
one_next [] i n d lt = absurd (omega (arith, lt))
one_next (k ∷ ks) zero n d lt = refl
one_next (k ∷ ks) (suc i) n d lt = one_next ks i n d (omega (arith, lt))

pub at_the_end : (ks : List Bool) (n : ℕ) → addresses_from n (drop (length ks) ks) ≡ n ∷ []
at_the_end [] n = refl
at_the_end (k ∷ ks) n = at_the_end ks n

-- the addresses so far, after one more
pub placed : (ks : List Bool) (ps qs : List ℕ) (i n m : ℕ) (d : Bool) → i < length ks → ps ++ addresses_from n (drop i ks) ≡ addresses ks → qs ≡ ps ++ n ∷ [] → m ≡ counted (get_or ks i d) n → qs ++ addresses_from m (drop (i + 1) ks) ≡ addresses ks
placed ks ps qs i n m d lt e f g =
    let one : i + 1 ≡ suc i = omega arith in
    ap (λ j. qs ++ addresses_from m (drop j ks)) one
    ∙ ap (λ l. l ++ addresses_from m (drop (suc i) ks)) f
    ∙ append_assoc ps (n ∷ []) (addresses_from m (drop (suc i) ks))
    ∙ ap (λ k. ps ++ n ∷ addresses_from k (drop (suc i) ks)) g
    ∙ ap (λ l. ps ++ l) (sym (one_next ks i n d lt))
    ∙ e

pub count_low : (k : Bool) (n i : ℕ) → n ≤ i → counted k n ≤ i + 1
count_low true n i le = omega (arith, le)
count_low false n i le = omega (arith, le)

-- what stays of a list, from a place on
sift_one : {A B : Type 0} (f : A → B) (ks : List Bool) (xs : List A) (i : ℕ) (d : A) → i < length xs → sifted (drop i ks) (map f (drop i xs)) ≡ one_if (get_or ks i false) (f (get_or xs i d)) ++ sifted (drop (suc i) ks) (map f (drop (suc i) xs))
sift_one f ks [] i d lt = absurd (omega (arith, lt))
sift_one f [] (x ∷ xs) zero d lt = refl
sift_one f [] (x ∷ xs) (suc i) d lt = refl
sift_one f (true ∷ ks) (x ∷ xs) zero d lt = refl
sift_one f (false ∷ ks) (x ∷ xs) zero d lt = refl
sift_one f (k ∷ ks) (x ∷ xs) (suc i) d lt = sift_one f ks xs i d (omega (arith, lt))

pub sift_next : {A B : Type 0} (f : A → B) (ks : List Bool) (xs : List A) (whole out new : List B) (i : ℕ) (d : A) → i < length xs → out ++ sifted (drop i ks) (map f (drop i xs)) ≡ whole → new ≡ out ++ one_if (get_or ks i false) (f (get_or xs i d)) → new ++ sifted (drop (i + 1) ks) (map f (drop (i + 1) xs)) ≡ whole
sift_next f ks xs whole out new i d lt e g =
    let one : i + 1 ≡ suc i = omega arith in
    ap (λ j. new ++ sifted (drop j ks) (map f (drop j xs))) one
    ∙ ap (λ l. l ++ sifted (drop (suc i) ks) (map f (drop (suc i) xs))) g
    ∙ append_assoc out (one_if (get_or ks i false) (f (get_or xs i d))) (sifted (drop (suc i) ks) (map f (drop (suc i) xs)))
    ∙ ap (λ l. out ++ l) (sym (sift_one f ks xs i d lt))
    ∙ e

nothing_left : {A B : Type 0} (f : A → B) (ks : List Bool) (xs : List A) (i : ℕ) → length xs ≤ i → sifted ks (map f (drop i xs)) ≡ []
nothing_left f [] xs i le = refl
nothing_left f (k ∷ ks) [] zero le = refl
nothing_left f (k ∷ ks) [] (suc i) le = refl
nothing_left f (k ∷ ks) (x ∷ xs) zero le = absurd (omega (arith, le))
nothing_left f (k ∷ ks) (x ∷ xs) (suc i) le = nothing_left f (k ∷ ks) xs i (omega (arith, le))

pub sift_end : {A B : Type 0} (f : A → B) (ks : List Bool) (xs : List A) (whole out : List B) (i : ℕ) → length xs ≤ i → out ++ sifted (drop i ks) (map f (drop i xs)) ≡ whole → out ≡ whole
sift_end f ks xs whole out i le e =
    sym (append-nil out) ∙ sym (ap (λ l. out ++ l) (nothing_left f (drop i ks) xs i le)) ∙ e
