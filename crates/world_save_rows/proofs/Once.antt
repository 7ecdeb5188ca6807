-- The rows of counters are one list: two lists with the same elements in order are one, where the order tells all elements apart.
use Rattle.std.proofs.Common.{◌≡◌, ◌⊎◌, inl, inr, ◌+◌, ℕ, zero, suc, Bool, true, false, cond, List, [], ◌∷◌, map, length, get_or, slice_get, Option, Some, refl, sym, ap, ap₂, ◌∙◌, subst, arith, add-one}
use Rattle.std.specs.Prelude.{IsPermutation, IsSorted, sum_by}
use Rattle.std.specs.List.{IsDistinct, AllByRecursion}
use Rattle.std.specs.List.Sorted.{IsSortedBy}
use Rattle.std.specs.Map.{keys_of}
use Rattle.std.specs.Cmp.Lexicographic.{slice_cmp}
use Rattle.std.specs.Ordering.{nat_cmp, ordering_then, ordering_reverse, is_lt, is_eq}
use Rattle.std.specs.declared.cmp.Ordering.{Ordering}
use Rattle.std.specs.declared.cmp.Ordering.TheVariants.{Less, Equal, Greater}
use Rattle.std.specs.Cmp.{IsTotalOrder, eq_by_cmp_equiv}
use Rattle.std.specs.FinMap.{nat_cmp-IsAntisymmetric, slice_cmp-IsAntisymmetric}
use Rattle.std.proofs.lemmas.List.Sums.{sum_by-cons}
use Rattle.std.proofs.lemmas.List.Sorted.{IsPermutation-refl, IsPermutation-sym, IsPermutation-trans, IsPermutation-cons, IsPermutation-middle, IsPermutation-map, sum_by-IsPermutation}
use Rattle.flow_labels.specs.TwoLists.{Text}
use Rattle.lam_value_homes.specs.Homes.{Home, home_eq, Counts, IsListing}
use Rattle.lam_value_homes.proofs.Keys.{home_exact, home_total, home_ties, then_parts}
use Rattle.lam_value_homes.proofs.Rows.{itself}
use Rattle.lam_value_homes.proofs.Listings.{listed_at, place_of}
use Rattle.world_save_terms.specs.Rows.{Row, row_cmp, row_of, AreRows}
use Rattle.world_save_rows.proofs.InOrder.{rows_total}

-- ---- lists in order

module _ {X : Type 0} (R : X → X → Ordering) (o : IsTotalOrder R) (exact : (x y : X) → R x y ≡ Equal → x ≡ y) where
  abbrev before : X → X → Bool
  before x y = is_lt (R x y)

  -- no element stands before the one that it follows
  abbrev Rises : List X → Type 0
  Rises [] = Unit {0}
  Rises (x ∷ []) = Unit {0}
  Rises (x ∷ y ∷ ys) = (before y x ≡ false) × Rises (y ∷ ys)

  rises_of : (xs : List X) → IsSortedBy before xs → Rises xs
  rises_of [] s = tt
  rises_of (x ∷ []) s = tt
  rises_of (x ∷ y ∷ ys) s = (
    s 0 x (omega arith) (omega arith),
    rises_of (y ∷ ys)
        (λ k d low high.
        subst (λ n. before (get_or (y ∷ ys) n d) (get_or (y ∷ ys) k d) ≡ false) (sym (add-one k))
        (subst (λ n. before (get_or (x ∷ y ∷ ys) n d) (get_or (y ∷ ys) k d) ≡ false) (add-one (suc k)) (s (suc k) d (omega arith) (omega (arith, high))))),
  )

  rest_rises : (x : X) (xs : List X) → Rises (x ∷ xs) → Rises xs
  rest_rises x [] up = tt
  rest_rises x (y ∷ ys) up = up.1

  -- ---- how often an element stands in a list

  abbrev one : X → X → ℕ
  one x y = cond (is_eq (R x y)) 1 0

  abbrev times : X → List X → ℕ
  times x ys = sum_by (one x) ys

  one_itself : (x : X) → one x x ≡ 1
  one_itself x = ap (λ (b : Bool). cond b 1 0) ((eq_by_cmp_equiv o).refl x)

  none_less : (x y : X) → R x y ≡ Less → one x y ≡ 0
  none_less x y e = ap (λ (r : Ordering). cond (is_eq r) 1 0) e

  less_on : (x y z : X) → R x y ≡ Less → before z y ≡ false → R x z ≡ Less
  less_on x y z less up = by (R z y) refl up
    where
      by : (r : Ordering) → R z y ≡ r → is_lt r ≡ false → R x z ≡ Less
      by Less e f = absurd cc
      by Equal e f = ap (R x) (exact z y e) ∙ less
      by Greater e f = o.trans x y z less (o.antisymm y z ∙ ap ordering_reverse e)

  -- what stands before the first does not stand in the list
  absent : (x y : X) (ys : List X) → R x y ≡ Less → Rises (y ∷ ys) → times x (y ∷ ys) ≡ 0
  absent x y [] less up = let a = sum_by-cons (one x) y [] in let n = none_less x y less in omega (arith, a, n)
  absent x y (z ∷ zs) less up =
      let a = sum_by-cons (one x) y (z ∷ zs) in
      let n = none_less x y less in
      let more = absent x z zs (less_on x y z less up.0) up.1 in
      omega (arith, a, n, more)

  present : (x : X) (xs : List X) → times x (x ∷ xs) ≡ 0 → ⊥
  present x xs e = let a = sum_by-cons (one x) x xs in let n = one_itself x in omega (arith, a, n, e)

  tails : (x y : X) (xs ys : List X) → x ≡ y → ((z : X) → times z (x ∷ xs) ≡ times z (y ∷ ys)) → (z : X) → times z xs ≡ times z ys
  tails x y xs ys e same z =
      let a = sum_by-cons (one z) x xs in
      let b = sum_by-cons (one z) y ys in
      let c = ap (one z) e in
      let d = same z in
      omega (arith, a, b, c, d)

  by_heads : (x y : X) (xs ys : List X) → Rises (x ∷ xs) → Rises (y ∷ ys) → ((z : X) → times z (x ∷ xs) ≡ times z (y ∷ ys)) → (((z : X) → times z xs ≡ times z ys) → xs ≡ ys) → (r : Ordering) → R x y ≡ r → x ∷ xs ≡ y ∷ ys
  by_heads x y xs ys up vp same more Less e = absurd (present x xs (same x ∙ absent x y ys e vp))
  by_heads x y xs ys up vp same more Equal e = let first = exact x y e in ap₂ (λ (z : X) (zs : List X). z ∷ zs) first (more (tails x y xs ys first same))
  by_heads x y xs ys up vp same more Greater e = absurd (present y ys (sym (same y) ∙ absent y x xs (o.antisymm y x ∙ ap ordering_reverse e) up))

  one_list : (xs ys : List X) → Rises xs → Rises ys → ((z : X) → times z xs ≡ times z ys) → xs ≡ ys
  one_list [] [] up vp same = refl
  one_list [] (y ∷ ys) up vp same = absurd (present y ys (sym (same y)))
  one_list (x ∷ xs) [] up vp same = absurd (present x xs (same x))
  one_list (x ∷ xs) (y ∷ ys) up vp same = by_heads x y xs ys up vp same (one_list xs ys (rest_rises x xs up) (rest_rises y ys vp)) (R x y) refl

  sorted_once : (xs ys : List X) → IsPermutation xs ys → IsSorted R xs → IsSorted R ys → xs ≡ ys
  sorted_once xs ys same s t = one_list xs ys (rises_of xs s) (rises_of ys t) (λ z. sym (sum_by-IsPermutation (one z) xs ys same))

-- ---- rows

texts_exact : (a b : Text) → slice_cmp nat_cmp a b ≡ Equal → a ≡ b
texts_exact = slice_cmp-IsAntisymmetric nat_cmp-IsAntisymmetric

row_exact : (a b : Row) → row_cmp a b ≡ Equal → a ≡ b
row_exact a b e =
    let p = then_parts (slice_cmp nat_cmp a.maker b.maker) (ordering_then (slice_cmp nat_cmp a.own b.own) (nat_cmp a.next b.next)) e in
    let q = then_parts (slice_cmp nat_cmp a.own b.own) (nat_cmp a.next b.next) p.1 in
    let maker = texts_exact a.maker b.maker p.0 in
    let own = texts_exact a.own b.own q.0 in
    let next = nat_cmp-IsAntisymmetric a.next b.next q.1 in
    λ j. record { maker = maker j; own = own j; next = next j }

-- ---- lists with the same elements, each once

module _ {X : Type 0} where
  abbrev In : X → List X → Type 0
  In y [] = ⊥
  In y (x ∷ xs) = (y ≡ x) ⊎ In y xs

  abbrev Apart : List X → Type 0
  Apart [] = Unit {0}
  Apart (x ∷ xs) = (In x xs → ⊥) × Apart xs

  abbrev without : (x : X) (ys : List X) → In x ys → List X
  without x [] h = []
  without x (y ∷ ys) (inl e) = ys
  without x (y ∷ ys) (inr h) = y ∷ without x ys h

  taken : (x : X) (ys : List X) (h : In x ys) → IsPermutation ys (x ∷ without x ys h)
  taken x [] h = absurd h
  taken x (y ∷ ys) (inl e) = subst (λ z. IsPermutation (y ∷ ys) (z ∷ ys)) (sym e) (IsPermutation-refl (y ∷ ys))
  taken x (y ∷ ys) (inr h) =
      IsPermutation-trans (y ∷ ys) (y ∷ x ∷ without x ys h) (x ∷ y ∷ without x ys h) (IsPermutation-cons y ys (x ∷ without x ys h) (taken x ys h))
      (IsPermutation-middle (y ∷ []) x (without x ys h))

  still_in : (y x : X) (ys : List X) (h : In x ys) → (y ≡ x → ⊥) → In y ys → In y (without x ys h)
  still_in y x [] h n i = absurd h
  still_in y x (z ∷ ys) (inl e) n (inl f) = absurd (n (f ∙ sym e))
  still_in y x (z ∷ ys) (inl e) n (inr i) = i
  still_in y x (z ∷ ys) (inr h) n (inl f) = inl f
  still_in y x (z ∷ ys) (inr h) n (inr i) = inr (still_in y x ys h n i)

  was_in : (y x : X) (ys : List X) (h : In x ys) → In y (without x ys h) → In y ys
  was_in y x [] h i = absurd h
  was_in y x (z ∷ ys) (inl e) i = inr i
  was_in y x (z ∷ ys) (inr h) (inl f) = inl f
  was_in y x (z ∷ ys) (inr h) (inr i) = inr (was_in y x ys h i)

  apart_without : (x : X) (ys : List X) (h : In x ys) → Apart ys → Apart (without x ys h)
  apart_without x [] h a = absurd h
  apart_without x (y ∷ ys) (inl e) a = a.1
  apart_without x (y ∷ ys) (inr h) a = (λ i. a.0 (was_in y x ys h i), apart_without x ys h a.1)

  gone : (x : X) (ys : List X) (h : In x ys) → Apart ys → In x (without x ys h) → ⊥
  gone x [] h a i = h
  gone x (y ∷ ys) (inl e) a i = a.0 (subst (λ z. In z ys) e i)
  gone x (y ∷ ys) (inr h) a (inl f) = a.0 (subst (λ z. In z ys) f h)
  gone x (y ∷ ys) (inr h) a (inr i) = gone x ys h a.1 i

  later_in : (y x : X) (xs : List X) → (y ≡ x → ⊥) → In y (x ∷ xs) → In y xs
  later_in y x xs n (inl e) = absurd (n e)
  later_in y x xs n (inr i) = i

  shuffled : (xs ys : List X) → Apart xs → Apart ys → ((z : X) → In z xs → In z ys) → ((z : X) → In z ys → In z xs) → IsPermutation xs ys
  shuffled [] [] a b to back = IsPermutation-refl []
  shuffled [] (y ∷ ys) a b to back = absurd (back y (inl refl))
  shuffled (x ∷ xs) ys a b to back =
      let h = to x (inl refl) in
      IsPermutation-trans (x ∷ xs) (x ∷ without x ys h) ys
      (IsPermutation-cons x xs (without x ys h) (shuffled xs (without x ys h) a.1 (apart_without x ys h b) (λ z i. still_in z x ys h (λ e. a.0 (subst (λ u. In u xs) e i)) (to z (inr i)))
      (λ z i. later_in z x xs (λ e. gone x ys h b (subst (λ u. In u (without x ys h)) e i)) (back z (was_in z x ys h i)))))
      (IsPermutation-sym ys (x ∷ without x ys h) (taken x ys h))

  place_in : (y : X) (xs : List X) → In y xs → (i : ℕ) × (slice_get xs i ≡ Some y)
  place_in y [] h = absurd h
  place_in y (x ∷ xs) (inl e) = (0, ap Some (sym e))
  place_in y (x ∷ xs) (inr h) = let p = place_in y xs h in (suc p.0, p.1)

  one_some : (x y : X) → ◌≡◌ {A = Option X} (Some x) (Some y) → x ≡ y
  one_some x y e = cc

  in_place : (y : X) (xs : List X) (i : ℕ) → slice_get xs i ≡ Some y → In y xs
  in_place y [] i e = absurd cc
  in_place y (x ∷ xs) zero e = inl (sym (one_some x y e))
  in_place y (x ∷ xs) (suc i) e = inr (in_place y xs i e)

-- ---- two listings of the same counters

not_in : (h : Home × ℕ) (hs : List (Home × ℕ)) → AllByRecursion (λ k. home_eq h.0 k ≡ false) (keys_of hs) → In h hs → ⊥
not_in h [] a i = i
not_in h (k ∷ hs) a (inl e) = let no : true ≡ false = sym (itself home_eq home_total home_exact home_ties h.0) ∙ ap (λ (x : Home × ℕ). home_eq h.0 x.0) e ∙ a.0 in cc
not_in h (k ∷ hs) a (inr i) = not_in h hs a.1 i

apart_of : (hs : List (Home × ℕ)) → IsDistinct home_eq (keys_of hs) → Apart hs
unfolding IsDistinct
apart_of [] d = tt
apart_of (h ∷ hs) d = (λ i. not_in h hs d.0 i, apart_of hs d.1)

among : (hs ks : List (Home × ℕ)) (counts : Counts) → IsListing hs counts → IsListing ks counts → (h : Home × ℕ) → In h hs → In h ks
among hs ks counts a b h i =
    let p = place_in h hs i in
    let q = place_of ks counts b h.0 h.1 (listed_at hs counts a p.0 h.0 h.1 p.1) in
    in_place h ks q.0 q.1

listings_shuffled : (hs ks : List (Home × ℕ)) (counts : Counts) → IsListing hs counts → IsListing ks counts → IsPermutation hs ks
listings_shuffled hs ks counts a b = shuffled hs ks (apart_of hs a.once) (apart_of ks b.once) (among hs ks counts a b) (among ks hs counts b a)

pub rows_once : (names : List Text) (counts : Counts) (rows others : List Row) → AreRows names counts rows → AreRows names counts others → rows ≡ others
rows_once names counts rows others a b =
    let homes = IsPermutation-map (row_of names) a.homes b.homes (listings_shuffled a.homes b.homes counts a.listed b.listed) in
    let back = IsPermutation-sym (map (row_of names) a.homes) rows a.same in
    let all = IsPermutation-trans rows (map (row_of names) a.homes) others back (IsPermutation-trans (map (row_of names) a.homes) (map (row_of names) b.homes) others homes b.same) in
    sorted_once row_cmp rows_total row_exact rows others all a.ordered b.ordered
