-- Every list has one with the same elements in order, by insertion; and rows in the order of code are in that of their
-- texts.
use Rattle.std.proofs.Common.{◌≡◌, ◌≤◌, ◌<◌, ◌+◌, ℕ, zero, suc, Bool, true, false, cond, List, [], ◌∷◌, ◌++◌, map, length, get_or, refl, sym, ap, ◌∙◌, subst, arith, add-one}
use Rattle.std.specs.Prelude.{IsPermutation, IsSorted, string_bytes}
use Rattle.std.specs.Cmp.Lexicographic.{slice_cmp}
use Rattle.std.specs.List.Sorted.{IsSortedBy}
use Rattle.std.specs.Ordering.{nat_cmp, ordering_then, ordering_reverse, is_lt}
use Rattle.std.specs.declared.cmp.Ordering.{Ordering}
use Rattle.std.specs.declared.cmp.Ordering.TheVariants.{Less, Equal, Greater}
use Rattle.std.specs.Cmp.{IsTotalOrder}
use Rattle.std.proofs.lemmas.Cmp.{then_total, on_total, nat_list_cmp_total, nat_cmp_total}
use Rattle.std.proofs.lemmas.List.Sorted.{IsPermutation-refl, IsPermutation-sym, IsPermutation-cons, IsPermutation-trans, IsPermutation-middle}
use Rattle.world_save_terms.specs.Rows.{Row, row_cmp}
use Rattle.world_save_rows.specs.declared.order.Row as code
use Rattle.world_save_rows.specs.Seen.{row_seen}

module _ {X : Type 0} (lt : X → X → Bool) where
  -- no element is less than the one before it
  abbrev Rises : List X → Type 0
  Rises [] = Unit {0}
  Rises (x ∷ []) = Unit {0}
  Rises (x ∷ y ∷ ys) = (lt y x ≡ false) × Rises (y ∷ ys)

  rises_sorted : (xs : List X) → Rises xs → IsSortedBy lt xs
  rises_sorted [] up k d low high = absurd (omega (arith, high))
  rises_sorted (x ∷ []) up k d low high = absurd (omega (arith, high))
  rises_sorted (x ∷ y ∷ ys) up zero d low high = up.0
  rises_sorted (x ∷ y ∷ ys) up (suc k) d low high =
      let more = rises_sorted (y ∷ ys) up.1 k d (omega arith) (omega (arith, high)) in
      subst (λ n. lt (get_or (x ∷ y ∷ ys) n d) (get_or (y ∷ ys) k d) ≡ false) (sym (add-one (suc k)))
      (subst (λ n. lt (get_or (y ∷ ys) n d) (get_or (y ∷ ys) k d) ≡ false) (add-one k) more)

  abbrev put : X → List X → List X
  put x [] = x ∷ []
  put x (y ∷ ys) = cond (lt y x) (y ∷ put x ys) (x ∷ y ∷ ys)

  abbrev sorted : List X → List X
  sorted [] = []
  sorted (x ∷ xs) = put x (sorted xs)

  module _ (once : (x y : X) → lt x y ≡ true → lt y x ≡ false) where
    after : (y x : X) (ys : List X) → lt x y ≡ false → Rises (y ∷ ys) → Rises (put x ys) → Rises (y ∷ put x ys)
    after y x [] e up more = (e, tt)
    after y x (z ∷ zs) e up more =
        elim (lt z x) as (λ b. Rises (cond b (z ∷ put x zs) (x ∷ z ∷ zs)) → Rises (y ∷ cond b (z ∷ put x zs) (x ∷ z ∷ zs))) [
          | true ↦ λ r. (up.0, r)
          | false ↦ λ r. (e, r)
        ] more

    rest_rises : (y : X) (ys : List X) → Rises (y ∷ ys) → Rises ys
    rest_rises y [] up = tt
    rest_rises y (z ∷ zs) up = up.1

    put_rises : (x : X) (ys : List X) → Rises ys → Rises (put x ys)
    put_rises x [] up = tt
    put_rises x (y ∷ ys) up =
        let more = put_rises x ys (rest_rises y ys up) in
        elim (lt y x) as (λ b. lt y x ≡ b → Rises (cond b (y ∷ put x ys) (x ∷ y ∷ ys))) [
          | true ↦ λ e. after y x ys (once y x e) up more
          | false ↦ λ e. (e, up)
        ] refl

    sorted_rises : (xs : List X) → Rises (sorted xs)
    sorted_rises [] = tt
    sorted_rises (x ∷ xs) = put_rises x (sorted xs) (sorted_rises xs)

  put_same : (x : X) (ys : List X) → IsPermutation (x ∷ ys) (put x ys)
  put_same x [] = IsPermutation-refl (x ∷ [])
  put_same x (y ∷ ys) =
      elim (lt y x) as (λ b. IsPermutation (x ∷ y ∷ ys) (cond b (y ∷ put x ys) (x ∷ y ∷ ys))) [
        | true ↦
            IsPermutation-trans (x ∷ y ∷ ys) (y ∷ x ∷ ys) (y ∷ put x ys) (IsPermutation-sym (y ∷ x ∷ ys) (x ∷ y ∷ ys) (IsPermutation-middle (y ∷ []) x ys))
            (IsPermutation-cons y (x ∷ ys) (put x ys) (put_same x ys))
        | false ↦ IsPermutation-refl (x ∷ y ∷ ys)
      ]

  sorted_same : (xs : List X) → IsPermutation xs (sorted xs)
  sorted_same [] = IsPermutation-refl []
  sorted_same (x ∷ xs) = IsPermutation-trans (x ∷ xs) (x ∷ sorted xs) (put x (sorted xs)) (IsPermutation-cons x xs (sorted xs) (sorted_same xs)) (put_same x (sorted xs))

-- ---- rows

pub rows_total : IsTotalOrder row_cmp
rows_total = then_total (on_total (λ (r : Row). r.maker) nat_list_cmp_total) (then_total (on_total (λ (r : Row). r.own) nat_list_cmp_total) (on_total (λ (r : Row). r.next) nat_cmp_total))

flipped : (o p : Ordering) → o ≡ ordering_reverse p → is_lt p ≡ true → is_lt o ≡ false
flipped o Less e h = ap is_lt e
flipped o Equal e h = absurd cc
flipped o Greater e h = absurd cc

one_way : (x y : Row) → is_lt (row_cmp x y) ≡ true → is_lt (row_cmp y x) ≡ false
one_way x y h = flipped (row_cmp y x) (row_cmp x y) (rows_total.antisymm y x) h

-- rows with the same elements that are in order
pub record HasSorted (rows : List Row) : Type 0 where
  pub in_order : List Row
  pub same : IsPermutation rows in_order
  pub ordered : IsSorted row_cmp in_order

abbrev by_text : Row → Row → Bool
by_text x y = is_lt (row_cmp x y)

pub sorted_rows : (rows : List Row) → HasSorted rows
sorted_rows rows =
    record { in_order = sorted by_text rows; same = sorted_same by_text rows; ordered = rises_sorted by_text (sorted by_text rows) (sorted_rises by_text one_way rows) }

-- ---- rows in the order of code

abbrev code_cmp : code.Row → code.Row → Ordering
code_cmp a b =
    ordering_then (slice_cmp nat_cmp (string_bytes a.maker) (string_bytes b.maker))
    (ordering_then (slice_cmp nat_cmp (string_bytes a.own) (string_bytes b.own)) (nat_cmp a.next b.next))

get_seen : (rows : List code.Row) (k : ℕ) (d : Row) (e : code.Row) → k < length rows → get_or (map row_seen rows) k d ≡ row_seen (get_or rows k e)
get_seen [] k d e h = absurd (omega (arith, h))
get_seen (r ∷ rows) zero d e h = refl
get_seen (r ∷ rows) (suc k) d e h = get_seen rows k d e (omega (arith, h))

length_seen : (rows : List code.Row) → length (map row_seen rows) ≡ length rows
length_seen [] = refl
length_seen (r ∷ rows) = ap suc (length_seen rows)

seen_ordered : (e : code.Row) (rows : List code.Row) → IsSorted code_cmp rows → IsSorted row_cmp (map row_seen rows)
seen_ordered e rows up k d low high =
    let n = length_seen rows in
    let later = get_seen rows (k + 1) d e (omega (arith, high, n)) in
    let here = get_seen rows k d e (omega (arith, high, n)) in
    ap is_lt (λ i. row_cmp (later i) (here i)) ∙ up k e low (omega (arith, high, n))

pub texts_in_order : (rows : List code.Row) → IsSorted code_cmp rows → IsSorted row_cmp (map row_seen rows)
texts_in_order [] up = λ k d low high. absurd (omega (arith, high))
texts_in_order (r ∷ rows) up = seen_ordered r (r ∷ rows) up
