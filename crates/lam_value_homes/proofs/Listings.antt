-- Laws of lists of the homes that are counted: each home stands once, and where it stands.
use Rattle.std.proofs.Common.{◌≡◌, ℕ, ◌+◌, ◌-◌, ◌≤◌, Bool, true, false, cond, List, [], ◌∷◌, ◌++◌, map, length, drop, take, slice_get, Some, None, suc, zero, refl, sym, ap, subst, ◌∙◌, arith, add-one}
use Rattle.std.specs.Prelude.{◌&&◌}
use Rattle.std.specs.Borrow.{Bor}
use Rattle.std.proofs.lemmas.List.{append-nil, append_assoc, length-map, map-append}
use Rattle.std.proofs.lemmas.Bool.{and_right}
use Rattle.std.specs.Map.{lookup, keys_of}
use Rattle.std.specs.HashMap.{HashMap, IsUnique}
use Rattle.std.specs.List.{IsDistinct, AllByRecursion}
use Rattle.std.specs.FinMap.{get}
use Rattle.flow_labels.specs.declared.Label.{Label}
use Rattle.lam_value_homes.specs.Homes.{Home, home_of, label_eq, home_eq, homes_in, homes_of, listed_home, Counts, IsListing}
use Rattle.lam_value_homes.proofs.Keys.{label_exact, label_total, label_ties, home_exact, home_total, home_ties}
use Rattle.lam_value_homes.proofs.Rows.{itself, is_same, label_same, absent, get_same, taken}

-- ---- a place in one list after another
before : {X : Type 0} (xs ys : List X) (i : ℕ) (x : X) → slice_get xs i ≡ Some x → slice_get (xs ++ ys) i ≡ Some x
before [] ys i x at = cc
before (y ∷ xs) ys zero x at = at
before (y ∷ xs) ys (suc i) x at = before xs ys i x at

after : {X : Type 0} (xs ys : List X) (k i : ℕ) → k ≡ length xs + i → slice_get (xs ++ ys) k ≡ slice_get ys i
after [] ys k i e = let same : k ≡ i = omega (arith, e) in ap (slice_get ys) same
after (x ∷ xs) ys zero i e = absurd (omega (arith, e))
after (x ∷ xs) ys (suc k) i e = after xs ys k i (omega (arith, e))

-- nothing stands past the last
pub ends : {X : Type 0} (xs : List X) (i : ℕ) → None ≡ slice_get xs i → length xs ≤ i
ends [] i e = omega arith
ends (x ∷ xs) zero e = cc
ends (x ∷ xs) (suc i) e = let le = ends xs i e in omega arith

from : {X : Type 0} (xs : List X) (i : ℕ) (x : X) → slice_get xs i ≡ Some x → drop i xs ≡ x ∷ drop (i + 1) xs
from xs i x at = by xs i at ∙ ap (λ n. x ∷ drop n xs) (sym (add-one i))
  where
    by : (ys : List _) (j : ℕ) → slice_get ys j ≡ Some x → drop j ys ≡ x ∷ drop (suc j) ys
    by [] j e = cc
    by (y ∷ ys) zero e = let same : y ≡ x = cc in ap (λ z. z ∷ ys) same
    by (y ∷ ys) (suc j) e = by ys j e

in_row : (m : Label) (es : List (Label × ℕ)) (i : ℕ) (own : Label) (n : ℕ) → slice_get es i ≡ Some (own, n) → slice_get (map {B = Home × ℕ} (λ (e : Label × ℕ). (home_of m e.0, e.1)) es) i ≡ Some (home_of m own, n)
in_row m [] i own n at = cc
in_row m (e ∷ es) zero own n at = let same : e ≡ (own, n) = cc in ap (λ (x : Label × ℕ). Some (home_of m x.0, x.1)) same
in_row m (e ∷ es) (suc i) own n at = in_row m es i own n at

module _ {S : Type 0} (rows : List (Label × HashMap Label ℕ S)) (at : ℕ) (maker : Label) (row : HashMap Label ℕ S) (is : slice_get rows at ≡ Some (maker, row)) (rest : ℕ) where
  -- the place is one of that maker's
  pub place_here : (own : Label) (n : ℕ) → slice_get row.entries rest ≡ Some (own, n) → slice_get (homes_in (drop at rows)) rest ≡ Some (home_of maker own, n)
  place_here own n here =
      ap (λ rs. slice_get (homes_in rs) rest) (from rows at (maker, row) is)
      ∙ before (map {B = Home × ℕ} (λ (e : Label × ℕ). (home_of maker e.0, e.1)) row.entries) (homes_in (drop (at + 1) rows)) rest (home_of maker own, n) (in_row maker row.entries rest own n here)

  -- the place is one of a later maker's, or past the last
  pub place_later : length row.entries ≤ rest → slice_get (homes_in (drop (at + 1) rows)) (rest - length row.entries) ≡ slice_get (homes_in (drop at rows)) rest
  place_later le =
      sym (ap (λ rs. slice_get (homes_in rs) rest) (from rows at (maker, row) is)
      ∙ after (map {B = Home × ℕ} (λ (e : Label × ℕ). (home_of maker e.0, e.1)) row.entries) (homes_in (drop (at + 1) rows)) rest (rest - length row.entries) (omega (arith, le, length-map {B = Home × ℕ} row.entries (λ (e : Label × ℕ). (home_of maker e.0, e.1)))))

-- ---- a list made home by home and maker by maker
of_append : (m : Label) (es fs : List (Label × ℕ)) → homes_of m (es ++ fs) ≡ homes_of m es ++ homes_of m fs
of_append m [] fs = refl
of_append m (e ∷ es) fs = λ j. (home_of m e.0, e.1) ∷ of_append m es fs j

-- a maker's next home, at the end
pub one_home_more : (maker own : Bor Label) (n : ℕ) (es : List (Label × ℕ)) (i : ℕ) → slice_get es i ≡ Some (own.now, n) → (first old new : List (Bor Label × Bor Label × ℕ)) → new ≡ old ++ (maker, own, n) ∷ []
    → map listed_home old ≡ map listed_home first ++ homes_of maker.now (take i es) → map listed_home new ≡ map listed_home first ++ homes_of maker.now (take (i + 1) es)
one_home_more maker own n es i at first old new more so_far =
    ap (map listed_home) more ∙ map-append listed_home old ((maker, own, n) ∷ [])
    ∙ ap (λ hs. hs ++ (home_of maker.now own.now, n) ∷ []) so_far
    ∙ append_assoc (map listed_home first) (homes_of maker.now (take i es)) ((home_of maker.now own.now, n) ∷ [])
    ∙ ap (λ hs. map listed_home first ++ hs) (sym (ap (homes_of maker.now) (taken es i (own.now, n) at) ∙ of_append maker.now (take i es) ((own.now, n) ∷ [])))

module _ {S : Type 0} where
  in_append : (rows more : List (Label × HashMap Label ℕ S)) → homes_in (rows ++ more) ≡ homes_in rows ++ homes_in more
  in_append [] more = refl
  in_append (row ∷ rows) more = ap (λ hs. homes_of row.0 row.1.entries ++ hs) (in_append rows more) ∙ sym (append_assoc (homes_of row.0 row.1.entries) (homes_in rows) (homes_in more))

  -- the next maker's homes, at the end
  pub one_maker_more : (rows : List (Label × HashMap Label ℕ S)) (i : ℕ) (maker : Label) (row : HashMap Label ℕ S) → slice_get rows i ≡ Some (maker, row) → (old new : List (Home × ℕ)) → old ≡ homes_in (take i rows)
      → new ≡ old ++ homes_of maker row.entries → new ≡ homes_in (take (i + 1) rows)
  one_maker_more rows i maker row at old new so_far more =
      more ∙ ap (λ hs. hs ++ homes_of maker row.entries) so_far
      ∙ ap (λ hs. homes_in (take i rows) ++ hs) (sym (append-nil (homes_of maker row.entries)))
      ∙ sym (ap (λ rs. homes_in rs) (taken rows i (maker, row) at) ∙ in_append (take i rows) ((maker, row) ∷ []))

-- ---- each home stands once
-- a maker's home that is in neither list is not in both together
apart : (m k : Label) (es : List (Label × ℕ)) (hs : List (Home × ℕ)) → AllByRecursion (λ y. label_eq k y ≡ false) (keys_of es) → AllByRecursion (λ h. home_eq (home_of m k) h ≡ false) (keys_of hs)
    → AllByRecursion (λ h. home_eq (home_of m k) h ≡ false) (keys_of (map {B = Home × ℕ} (λ (e : Label × ℕ). (home_of m e.0, e.1)) es ++ hs))
apart m k [] hs a b = b
apart m k (e ∷ es) hs a b = (and_right (label_eq m m) (label_eq k e.0) a.0, apart m k es hs a.1 b)

-- nor is it among the homes of another maker
elsewhere : (m k p : Label) (es : List (Label × ℕ)) (hs : List (Home × ℕ)) → label_eq m p ≡ false → AllByRecursion (λ h. home_eq (home_of m k) h ≡ false) (keys_of hs)
    → AllByRecursion (λ h. home_eq (home_of m k) h ≡ false) (keys_of (map {B = Home × ℕ} (λ (e : Label × ℕ). (home_of p e.0, e.1)) es ++ hs))
elsewhere m k p [] hs a b = b
elsewhere m k p (e ∷ es) hs a b = (ap (λ t. t && label_eq k e.0) a, elsewhere m k p es hs a b)

others : {S : Type 0} (m k : Label) (rows : List (Label × HashMap Label ℕ S)) → AllByRecursion (λ y. label_eq m y ≡ false) (keys_of rows) → AllByRecursion (λ h. home_eq (home_of m k) h ≡ false) (keys_of (homes_in rows))
others m k [] a = tt
others m k (row ∷ rows) a = elsewhere m k row.0 row.1.entries (homes_in rows) a.0 (others m k rows a.1)

once_more : (m : Label) (es : List (Label × ℕ)) (hs : List (Home × ℕ)) → IsDistinct label_eq (keys_of es) → ((k : Label) → AllByRecursion (λ h. home_eq (home_of m k) h ≡ false) (keys_of hs))
    → IsDistinct home_eq (keys_of hs) → IsDistinct home_eq (keys_of (map {B = Home × ℕ} (λ (e : Label × ℕ). (home_of m e.0, e.1)) es ++ hs))
unfolding IsDistinct
once_more m [] hs d a b = b
once_more m (e ∷ es) hs d a b = (apart m e.0 es hs d.0 (a e.0), once_more m es hs d.1 a b)

pub homes_once : {S : Type 0} (rows : List (Label × HashMap Label ℕ S)) → IsDistinct label_eq (keys_of rows) → ((m : Label) (row : HashMap Label ℕ S) → lookup (label_eq m) rows ≡ Some row → IsUnique label_eq row) → IsDistinct home_eq (keys_of (homes_in rows))
unfolding IsDistinct
homes_once [] d once = tt
homes_once (row ∷ rows) d once =
    once_more row.0 row.1.entries (homes_in rows) (once row.0 row.1 (ap (λ b. cond b (Some row.1) (lookup (label_eq row.0) rows)) (itself label_eq label_total label_exact label_ties row.0)))
    (λ k. others row.0 k rows d.0) (homes_once rows d.1 (λ m r e. once m r (later m r e (label_eq m row.0) refl)))
  where
    later : (m : Label) (r : HashMap Label ℕ _) → lookup (label_eq m) rows ≡ Some r → (b : Bool) → label_eq m row.0 ≡ b → cond b (Some row.1) (lookup (label_eq m) rows) ≡ Some r
    later m r e true is = let none : lookup (label_eq m) rows ≡ None = ap (λ k. lookup (label_eq k) rows) (label_same m row.0 is) ∙ absent row.0 rows d.0 in cc
    later m r e false is = e

-- ---- what a list of the homes that are counted tells its reader
nowhere : (h : Home) (n : ℕ) (hs : List (Home × ℕ)) (i : ℕ) → AllByRecursion (λ k. home_eq h k ≡ false) (keys_of hs) → slice_get hs i ≡ Some (h, n) → ⊥
nowhere h n [] i a e = cc
nowhere h n (x ∷ hs) zero a e =
    let same : x ≡ (h, n) = cc in
    let no : true ≡ false = sym (itself home_eq home_total home_exact home_ties h) ∙ ap (λ (y : Home × ℕ). home_eq h y.0) (sym same) ∙ a.0 in cc
nowhere h n (x ∷ hs) (suc i) a e = nowhere h n hs i a.1 e

found : (hs : List (Home × ℕ)) → IsDistinct home_eq (keys_of hs) → (i : ℕ) (h : Home) (n : ℕ) → slice_get hs i ≡ Some (h, n) → lookup (home_eq h) hs ≡ Some n
unfolding IsDistinct
found [] d i h n at = cc
found (x ∷ hs) d zero h n at =
    let same : x ≡ (h, n) = cc in
    ap (λ (y : Home × ℕ). cond (home_eq h y.0) (Some y.1) (lookup (home_eq h) hs)) same ∙ ap (λ b. cond b (Some n) (lookup (home_eq h) hs)) (itself home_eq home_total home_exact home_ties h)
found (x ∷ hs) d (suc i) h n at = by (home_eq h x.0) refl (found hs d.1 i h n at)
  where
    by : (b : Bool) → home_eq h x.0 ≡ b → lookup (home_eq h) hs ≡ Some n → cond b (Some x.1) (lookup (home_eq h) hs) ≡ Some n
    by true e f = absurd (nowhere h n hs i (subst (λ k. AllByRecursion (λ y. home_eq k y ≡ false) (keys_of hs)) (sym (is_same home_eq home_total home_exact home_ties h x.0 e)) d.0) at)
    by false e f = f

stands : (h : Home) (n : ℕ) (hs : List (Home × ℕ)) → lookup (home_eq h) hs ≡ Some n → (i : ℕ) × (slice_get hs i ≡ Some (h, n))
stands h n [] e = cc
stands h n (x ∷ hs) e = by (home_eq h x.0) refl e (stands h n hs)
  where
    by : (b : Bool) → home_eq h x.0 ≡ b → cond b (Some x.1) (lookup (home_eq h) hs) ≡ Some n → (lookup (home_eq h) hs ≡ Some n → (i : ℕ) × (slice_get hs i ≡ Some (h, n))) → (i : ℕ) × (slice_get (x ∷ hs) i ≡ Some (h, n))
    by true t f later =
        let same = is_same home_eq home_total home_exact home_ties h x.0 t in
        let number : x.1 ≡ n = cc in
        (0, λ j. Some (sym same j, number j))
    by false t f later = let there = later f in (suc there.0, there.1)

-- what stands at a place is that home's counter
pub listed_at : (hs : List (Home × ℕ)) (m : Counts) → IsListing hs m → (i : ℕ) (h : Home) (n : ℕ) → slice_get hs i ≡ Some (h, n) → get m h ≡ Some n
listed_at hs m list i h n at = sym (get_same home_eq home_total home_exact home_ties h hs ∙ ap (λ c. get c h) list.each) ∙ found hs list.once i h n at

-- and each home that is counted stands at a place
pub place_of : (hs : List (Home × ℕ)) (m : Counts) → IsListing hs m → (h : Home) (n : ℕ) → get m h ≡ Some n → (i : ℕ) × (slice_get hs i ≡ Some (h, n))
place_of hs m list h n counted = stands h n hs (get_same home_eq home_total home_exact home_ties h hs ∙ ap (λ c. get c h) list.each ∙ counted)
