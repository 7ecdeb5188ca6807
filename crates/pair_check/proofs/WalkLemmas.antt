-- Two lists are compared by those of their elements that pass.
use Rattle.std.proofs.Common.{◌≡◌, ◌<◌, ◌≤◌, ◌+◌, ℕ, zero, suc, Bool, true, false, cond, List, [], ◌∷◌, ◌++◌, length, drop, get_or, reverse, Option, Some, None, refl, sym, ap, ◌∙◌, arith, append-nil}
use Rattle.std.specs.Prelude.{filter, ◌↔◌, IsTrue, MatchOption, is_some, not, slice_get}
use Rattle.std.proofs.lemmas.Bool.{true≢false, false≢true}
use Rattle.std.proofs.lemmas.List.{drop_more, drop_all, reverse-append}
use Rattle.std.proofs.lemmas.List.Elements.{filter-append}
use Rattle.std.proofs.lemmas.Option.{get_or_from_slice_get}

-- something stands at each place
one_at : {X : Type 0} (xs : List X) (k : ℕ) → k < length xs → (x : X) × (slice_get xs k ≡ Some x)
one_at [] k lt = absurd (omega arith)
one_at (x ∷ xs) zero lt = (x, refl)
one_at (x ∷ xs) (suc k) lt = one_at xs k (omega arith)

module _ {X : Type 0} (p : X → Bool) where
  pub passes : (x : X) (xs : List X) → p x ≡ true → filter p (x ∷ xs) ≡ x ∷ filter p xs
  passes x xs e = ap (λ b. cond b (x ∷ filter p xs) (filter p xs)) e

  pub fails : (x : X) (xs : List X) → p x ≡ false → filter p (x ∷ xs) ≡ filter p xs
  fails x xs e = ap (λ b. cond b (x ∷ filter p xs) (filter p xs)) e

  -- the element at a place, and those after it
  pub passes_at : (xs : List X) (i : ℕ) (d : X) → i < length xs → p (get_or xs i d) ≡ true → filter p (drop i xs) ≡ get_or xs i d ∷ filter p (drop (i + 1) xs)
  passes_at xs i d lt e = ap (filter p) (drop_more xs i d lt) ∙ passes (get_or xs i d) (drop (i + 1) xs) e

  pub fails_at : (xs : List X) (i : ℕ) (d : X) → i < length xs → p (get_or xs i d) ≡ false → filter p (drop i xs) ≡ filter p (drop (i + 1) xs)
  fails_at xs i d lt e = ap (filter p) (drop_more xs i d lt) ∙ fails (get_or xs i d) (drop (i + 1) xs) e

  pub none_past : (xs : List X) (i : ℕ) → length xs ≤ i → filter p (drop i xs) ≡ []
  none_past xs i le = ap (filter p) (drop_all i xs le)

  -- the first one from a place on, where those before it do not pass
  pub found_at : (xs : List X) (from at : ℕ) (x : X) → filter p (drop from xs) ≡ filter p (drop at xs) → at < length xs → x ≡ get_or xs at x → p x ≡ true → (y : X) → slice_get xs at ≡ Some y → filter p (drop from xs) ≡ y ∷ filter p (drop (at + 1) xs)
  found_at xs from at x same lt is e y there =
      same ∙ passes_at xs at x lt (ap p (sym is) ∙ e) ∙ ap (λ (z : X). z ∷ filter p (drop (at + 1) xs)) (get_or_from_slice_get xs at y x there)

  -- the other way round
  front_reversed : (x : X) (xs : List X) (b : Bool) → p x ≡ b → reverse (filter p xs) ++ filter p (x ∷ []) ≡ reverse (filter p (x ∷ xs))
  front_reversed x xs true e = ap (λ l. reverse (filter p xs) ++ l) (passes x [] e) ∙ sym (reverse-append (x ∷ []) (filter p xs)) ∙ sym (ap reverse (passes x xs e))
  front_reversed x xs false e = ap (λ l. reverse (filter p xs) ++ l) (fails x [] e) ∙ append-nil (reverse (filter p xs)) ∙ sym (ap reverse (fails x xs e))

  pub filter_reversed : (xs : List X) → filter p (reverse xs) ≡ reverse (filter p xs)
  filter_reversed [] = refl
  filter_reversed (x ∷ xs) =
      ap (filter p) (reverse-append (x ∷ []) xs)
      ∙ filter-append p (reverse xs) (x ∷ [])
      ∙ ap (λ l. l ++ filter p (x ∷ [])) (filter_reversed xs)
      ∙ front_reversed x xs (p x) refl

  -- the ends of two lists are compared in the place of the whole lists
  abbrev pub Left : List X → List X → ℕ → ℕ → Type 0
  Left xs ys i j = (filter p xs ≡ filter p ys) ↔ (filter p (drop i xs) ≡ filter p (drop j ys))

  module _ (xs ys : List X) (i j : ℕ) (left : Left xs ys i j) where
    -- an element of the one does not pass
    pub left_out : (x : X) → i < length xs → x ≡ get_or xs i x → p x ≡ false → Left xs ys (i + 1) j
    left_out x lt at e =
        let same = fails_at xs i x lt (ap p (sym at) ∙ e) in
        (λ h. sym same ∙ left.0 h, λ h. left.1 (same ∙ h))

    module _ (x y : X) (rest : List X) (lt : i < length xs) (at : x ≡ get_or xs i x) (e : p x ≡ true) (more : filter p (drop j ys) ≡ y ∷ rest) where
      next_in : filter p (drop i xs) ≡ x ∷ filter p (drop (i + 1) xs)
      next_in = passes_at xs i x lt (ap p (sym at) ∙ e) ∙ ap (λ (z : X). z ∷ filter p (drop (i + 1) xs)) (sym at)

      both_next : filter p xs ≡ filter p ys → x ∷ filter p (drop (i + 1) xs) ≡ y ∷ rest
      both_next h = sym next_in ∙ left.0 h ∙ more

      -- elements that pass on both sides differ
      pub both_apart : (x ≡ y → ⊥) → IsTrue false ↔ (filter p xs ≡ filter p ys)
      both_apart apart = (λ t. absurd (false≢true t), λ h. let q = both_next h in absurd (apart cc))

      rest_same : filter p xs ≡ filter p ys → filter p (drop (i + 1) xs) ≡ rest
      rest_same h = let q = both_next h in cc

      rest_whole : x ≡ y → filter p (drop (i + 1) xs) ≡ rest → filter p xs ≡ filter p ys
      rest_whole same h = left.1 (next_in ∙ (λ n. same n ∷ h n) ∙ sym more)

    -- or they are equal
    pub both_in : (x y : X) (k : ℕ) → i < length xs → x ≡ get_or xs i x → p x ≡ true → filter p (drop j ys) ≡ y ∷ filter p (drop (k + 1) ys) → x ≡ y → Left xs ys (i + 1) (k + 1)
    both_in x y k lt at e more same = (rest_same x y (filter p (drop (k + 1) ys)) lt at e more, rest_whole x y (filter p (drop (k + 1) ys)) lt at e more same)

    -- the one is at its end: the other one has nothing more that passes
    pub all_in : length xs ≤ i → (b : Bool) (r : Option ℕ) → is_some r ≡ not b → MatchOption r (filter p (drop j ys) ≡ []) (λ k. (k < length ys) × ((y : X) → slice_get ys k ≡ Some y → filter p (drop j ys) ≡ y ∷ filter p (drop (k + 1) ys))) → IsTrue b ↔ (filter p xs ≡ filter p ys)
    all_in end true None e m = (λ t. left.1 (none_past xs i end ∙ sym m), λ h. refl)
    all_in end false None e m = absurd (false≢true e)
    all_in end true (Some k) e m = absurd (true≢false e)
    all_in end false (Some k) e m =
        let y = one_at ys k m.0 in
        (λ t. absurd (false≢true t), λ h. let q : [] ≡ y.0 ∷ filter p (drop (k + 1) ys) = sym (none_past xs i end) ∙ left.0 h ∙ m.1 y.0 y.1 in absurd cc)
