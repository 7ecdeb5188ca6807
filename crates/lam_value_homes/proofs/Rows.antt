-- Laws of look-ups in entries: what a copy keeps, and how a map of maps is one map.
use Rattle.std.proofs.Common.{◌≡◌, ℕ, ◌+◌, ◌<◌, ◌≤◌, Bool, true, false, cond, List, [], ◌∷◌, ◌++◌, map, length, IsSome, is_some, IsTrue, take, drop, slice_get, Option, Some, None, suc, zero, refl, sym, ap, subst, ◌∙◌, arith, add-one}
use Rattle.std.specs.Prelude.{◌&&◌, option_and_then, unwrap_or}
use Rattle.std.specs.Option.{option_or}
use Rattle.std.specs.Ordering.{eq_by_cmp}
use Rattle.std.specs.declared.cmp.Ordering.{Ordering}
use Rattle.std.specs.Cmp.{IsTotalOrder, eq_by_cmp_equiv, Equal-is}
use Rattle.std.specs.Map.{lookup, keys_of}
use Rattle.std.specs.HashMap.{HashMap, IsUnique}
use Rattle.std.specs.List.{IsDistinct, AllByRecursion}
use Rattle.std.proofs.lemmas.List.{take-append-drop, take_all}
use Rattle.std.specs.FinMap.{find, get, insert, from_entries, get-insert, get-from_entries, same_map, IsAntisymmetric}
use Rattle.flow_labels.specs.declared.Label.{Label}
use Rattle.lam_value_homes.specs.Homes.{Home, home_of, label_eq, home_eq, homes_in, home_in, count_in, Counts, AreHomes}
use Rattle.lam_value_homes.specs.Alike.{AreAlike, AreAlikeWhere}
use Rattle.lam_value_homes.proofs.Keys.{label_exact, label_total, label_ties, home_exact, home_total, home_ties}

pub lookup-append : {K X : Type 0} (t : K → Bool) (xs ys : List (K × X)) → lookup t (xs ++ ys) ≡ option_or (lookup t xs) (lookup t ys)
lookup-append t [] ys = refl
lookup-append t (x ∷ xs) ys =
    elim (t x.0) as (λ b. cond b (Some x.1) (lookup t (xs ++ ys)) ≡ option_or (cond b (Some x.1) (lookup t xs)) (lookup t ys)) [ true ↦ refl | false ↦ lookup-append t xs ys ]

taken-suc : {X : Type 0} (es : List X) (i : ℕ) (x : X) → slice_get es i ≡ Some x → take (suc i) es ≡ take i es ++ x ∷ []
taken-suc [] zero x at = cc
taken-suc [] (suc i) x at = cc
taken-suc (e ∷ es) zero x at = let same : e ≡ x = cc in ap (λ y. y ∷ []) same
taken-suc (e ∷ es) (suc i) x at = ap (λ ys. e ∷ ys) (taken-suc es i x at)

pub taken : {X : Type 0} (es : List X) (i : ℕ) (x : X) → slice_get es i ≡ Some x → take (i + 1) es ≡ take i es ++ x ∷ []
taken es i x at = ap (λ n. take n es) (add-one i) ∙ taken-suc es i x at

pub or_none : {X : Type 0} (o : Option X) → option_or o None ≡ o
or_none None = refl
or_none (Some x) = refl

module _ {K : Type 0} {R : K → K → Ordering} (E : K → K → Bool) (total : IsTotalOrder R) (exact : IsAntisymmetric R) (ties : (x y : K) → E x y ≡ eq_by_cmp R x y) where
  symmetric : (x y : K) → E x y ≡ E y x
  symmetric x y = ties x y ∙ (eq_by_cmp_equiv total).symm x y ∙ sym (ties y x)

  -- keys that are equal by `==` are equal
  pub is_same : (x y : K) → E x y ≡ true → x ≡ y
  is_same x y e = exact x y ((Equal-is (R x y)).0 (sym (ties x y) ∙ e))

  pub itself : (x : K) → E x x ≡ true
  itself x = ties x x ∙ (eq_by_cmp_equiv total).refl x

  -- A step of a copy of a map, entry by entry: of the values it keeps what `seen` sees.
  pub copy_more : {X Y : Type 0} (seen : X → Option Y) (es done new : List (K × X)) (i : ℕ) (k : K) (v w : X)
      → slice_get es i ≡ Some (k, v) → lookup (E k) es ≡ Some v → seen w ≡ seen v
      → ((q : K) → option_and_then seen (lookup (E q) done) ≡ option_and_then seen (lookup (E q) (take i es)))
      → ((q : K) → lookup (E q) new ≡ cond (E k q) (Some w) (lookup (E q) done))
      → (q : K) → option_and_then seen (lookup (E q) new) ≡ option_and_then seen (lookup (E q) (take (i + 1) es))
  copy_more {X} {Y} seen es done new i k v w at found same so_far added q =
      ap (option_and_then seen) (added q)
      ∙ elim (E k q) as (λ b. E k q ≡ b → option_and_then seen (cond b (Some w) (lookup (E q) done)) ≡ option_and_then seen (option_or (lookup (E q) (take i es)) (cond b (Some v) None))) [
        | true ↦ λ e. same ∙ here (is_same k q e) (lookup (E q) (take i es)) refl
        | false ↦ λ e. so_far q ∙ ap (option_and_then seen) (sym (or_none (lookup (E q) (take i es))))
      ] refl
      ∙ ap (λ b. option_and_then seen (option_or (lookup (E q) (take i es)) (cond b (Some v) None))) (symmetric k q)
      ∙ ap (option_and_then seen) (sym (ap (lookup (E q)) (taken es i (k, v) at) ∙ lookup-append (E q) (take i es) ((k, v) ∷ [])))
    where
      here : k ≡ q → (o : Option X) → lookup (E q) (take i es) ≡ o → seen v ≡ option_and_then seen (option_or o (Some v))
      here e None is = refl
      here e (Some x) is =
          let whole : lookup (E q) es ≡ Some x =
          ap (lookup (E q)) (sym (take-append-drop i es)) ∙ lookup-append (E q) (take i es) (drop i es) ∙ ap (λ o. option_or o (lookup (E q) (drop i es))) is in
          let one : Some v ≡ Some x = sym found ∙ ap (λ p. lookup (E p) es) e ∙ whole in
          ap (option_and_then seen) one

  -- what is looked up in entries is what a finite map of them has
  find_same : {X : Type 0} (q : K) (es : List (K × X)) → lookup (E q) es ≡ find R q es
  find_same q [] = refl
  find_same q (e ∷ es) = λ i. cond (ties q e.0 i) (Some e.1) (find_same q es i)

  pub get_same : {X : Type 0} (q : K) (es : List (K × X)) → lookup (E q) es ≡ get (from_entries {R = R} es) q
  get_same q es = find_same q es ∙ sym (get-from_entries total es q)

  pub entries_same : {X : Type 0} (old new : List (K × X)) → ((q : K) → lookup (E q) new ≡ lookup (E q) old) → from_entries {R = R} new ≡ from_entries old
  entries_same old new same = same_map total exact _ _ (λ q. sym (get_same q new) ∙ same q ∙ get_same q old)

  pub entries_insert : {X : Type 0} (old new : List (K × X)) (k : K) (v : X) → ((q : K) → lookup (E q) new ≡ cond (E k q) (Some v) (lookup (E q) old)) → from_entries {R = R} new ≡ insert (from_entries old) k v
  entries_insert old new k v added =
      same_map total exact _ _ (λ q. sym (get_same q new) ∙ added q
      ∙ (λ i. cond ((ties k q ∙ (eq_by_cmp_equiv total).symm k q) i) (Some v) (get_same q old i)) ∙ sym (get-insert total (from_entries old) k v q))

-- ---- homes
pub label_same : (x y : Label) → label_eq x y ≡ true → x ≡ y
label_same = is_same label_eq label_total label_exact label_ties

in_row : (m : Label) (es : List (Label × ℕ)) (h : Home) → lookup (home_eq h) (map (λ (e : Label × ℕ). (home_of m e.0, e.1)) es) ≡ cond (label_eq h.maker m) (lookup (label_eq h.own) es) None
in_row m [] h = elim (label_eq h.maker m) as (λ b. ◌≡◌ {A = Option ℕ} None (cond b None None)) [ true ↦ refl | false ↦ refl ]
in_row m (e ∷ es) h =
    ap (cond (label_eq h.maker m && label_eq h.own e.0) (Some e.1)) (in_row m es h)
    ∙ elim (label_eq h.maker m) as (λ b. cond (b && label_eq h.own e.0) (Some e.1) (cond b (lookup (label_eq h.own) es) None) ≡ cond b (cond (label_eq h.own e.0) (Some e.1) (lookup (label_eq h.own) es)) None) [ true ↦ refl | false ↦ refl ]

module _ {S : Type 0} where
  pub absent : (k : Label) (rows : List (Label × HashMap Label ℕ S)) → AllByRecursion (λ y. label_eq k y ≡ false) (keys_of rows) → lookup (label_eq k) rows ≡ None
  absent k [] none = refl
  absent k (row ∷ rows) none = (λ i. cond (none.0 i) (Some row.1) (lookup (label_eq k) rows)) ∙ absent k rows none.1

  -- a home's number in a map of maps
  pub homes_at : (rows : List (Label × HashMap Label ℕ S)) → IsDistinct label_eq (keys_of rows) → (h : Home) → lookup (home_eq h) (homes_in rows) ≡ home_in rows h
  unfolding IsDistinct
  homes_at [] distinct h = refl
  homes_at (row ∷ rows) distinct h =
      lookup-append (home_eq h) (map (λ (e : Label × ℕ). (home_of row.0 e.0, e.1)) row.1.entries) (homes_in rows)
      ∙ (λ i. option_or (in_row row.0 row.1.entries h i) (homes_at rows distinct.1 h i))
      ∙ elim (label_eq h.maker row.0) as (λ b. label_eq h.maker row.0 ≡ b → option_or (cond b (lookup (label_eq h.own) row.1.entries) None) (home_in rows h) ≡ option_and_then (λ (r : HashMap Label ℕ S). lookup (label_eq h.own) r.entries) (cond b (Some row.1) (lookup (label_eq h.maker) rows))) [
        | true ↦ λ e.
            let none : lookup (label_eq h.maker) rows ≡ None = ap (λ k. lookup (label_eq k) rows) (label_same h.maker row.0 e) ∙ absent row.0 rows distinct.0 in
            ap (λ o. option_or (lookup (label_eq h.own) row.1.entries) (option_and_then (λ (r : HashMap Label ℕ S). lookup (label_eq h.own) r.entries) o)) none ∙ or_none _
        | false ↦ λ e. refl
      ] refl

  -- a row with one more number, put back
  pub home_set : (old new : List (Label × HashMap Label ℕ S)) (row : HashMap Label ℕ S) (maker own : Label) (n : ℕ)
      → ((q : Label) → lookup (label_eq q) new ≡ cond (label_eq maker q) (Some row) (lookup (label_eq q) old))
      → ((q : Label) → lookup (label_eq q) row.entries ≡ cond (label_eq own q) (Some n) (home_in old (home_of maker q)))
      → (h : Home) → home_in new h ≡ cond (home_eq (home_of maker own) h) (Some n) (home_in old h)
  home_set old new row maker own n outer inner h =
      ap (option_and_then (λ (r : HashMap Label ℕ S). lookup (label_eq h.own) r.entries)) (outer h.maker)
      ∙ elim (label_eq maker h.maker) as (λ b. label_eq maker h.maker ≡ b → option_and_then (λ (r : HashMap Label ℕ S). lookup (label_eq h.own) r.entries) (cond b (Some row) (lookup (label_eq h.maker) old)) ≡ cond (b && label_eq own h.own) (Some n) (home_in old h)) [
        | true ↦ λ e. inner h.own ∙ ap (λ m. cond (label_eq own h.own) (Some n) (home_in old (home_of m h.own))) (label_same maker h.maker e)
        | false ↦ λ e. refl
      ] refl

-- ---- what contracts see of a map of maps
module _ {S : Type 0} (rows : List (Label × HashMap Label ℕ S)) (m : Counts) (unique : IsDistinct label_eq (keys_of rows)) (seen : from_entries (homes_in rows) ≡ m) where
  pub count_seen : (h : Home) → unwrap_or (home_in rows h) 0 ≡ count_in m h
  count_seen h = ap (λ o. unwrap_or o 0) (sym (homes_at rows unique h) ∙ get_same home_eq home_total home_exact home_ties h (homes_in rows) ∙ ap (λ n. get n h) seen)

  pub same_seen : (new : List (Label × HashMap Label ℕ S)) → IsDistinct label_eq (keys_of new) → ((h : Home) → home_in new h ≡ home_in rows h) → from_entries (homes_in new) ≡ m
  same_seen new unique_new same =
      entries_same home_eq home_total home_exact home_ties (homes_in rows) (homes_in new) (λ h. homes_at new unique_new h ∙ same h ∙ sym (homes_at rows unique h)) ∙ seen

  pub set_seen : (new : List (Label × HashMap Label ℕ S)) → IsDistinct label_eq (keys_of new) → (k : Home) (n : ℕ) → ((h : Home) → home_in new h ≡ cond (home_eq k h) (Some n) (home_in rows h)) → from_entries (homes_in new) ≡ insert m k n
  set_seen new unique_new k n set =
      entries_insert home_eq home_total home_exact home_ties (homes_in rows) (homes_in new) k n
      (λ h. homes_at new unique_new h ∙ set h ∙ ap (cond (home_eq k h) (Some n)) (sym (homes_at rows unique h)))
      ∙ ap (λ t. insert t k n) seen

module _ {S : Type 0} where
  -- a row that holds what it held, put back
  pub home_kept : (old new : List (Label × HashMap Label ℕ S)) (row : HashMap Label ℕ S) (maker : Label)
      → ((q : Label) → lookup (label_eq q) new ≡ cond (label_eq maker q) (Some row) (lookup (label_eq q) old))
      → ((q : Label) → lookup (label_eq q) row.entries ≡ home_in old (home_of maker q))
      → (h : Home) → home_in new h ≡ home_in old h
  home_kept old new row maker outer inner h =
      ap (option_and_then (λ (r : HashMap Label ℕ S). lookup (label_eq h.own) r.entries)) (outer h.maker)
      ∙ elim (label_eq maker h.maker) as (λ b. label_eq maker h.maker ≡ b → option_and_then (λ (r : HashMap Label ℕ S). lookup (label_eq h.own) r.entries) (cond b (Some row) (lookup (label_eq h.maker) old)) ≡ home_in old h) [
        | true ↦ λ e. inner h.own ∙ ap (λ m. home_in old (home_of m h.own)) (label_same maker h.maker e)
        | false ↦ λ e. refl
      ] refl

-- the end of a copy: all entries were taken
pub taken_all : {X : Type 0} (xs : List X) (i n : ℕ) → n ≤ i → n ≡ length xs → take i xs ≡ xs
taken_all xs i n le is = take_all i xs (omega arith)

pub seen_all : {X : Type 0} (o : Option X) → option_and_then (λ x. Some x) o ≡ o
seen_all None = refl
seen_all (Some x) = refl

-- ---- homes that are counted
holds_some : (es : List (Label × ℕ)) (q : Label) → IsSome (lookup (label_eq q) es) → 0 < length es
holds_some [] q h = cc
holds_some (e ∷ es) q h = omega arith

-- a row with one number more has one
pub filled_put : (es : List (Label × ℕ)) (own : Label) (n : ℕ) (o : Option ℕ) → lookup (label_eq own) es ≡ cond (label_eq own own) (Some n) o → 0 < length es
filled_put es own n o e = holds_some es own (ap is_some e ∙ ap (λ b. is_some (cond b (Some n) o)) (itself label_eq label_total label_exact label_ties own))

-- and so has one that holds what a row with a number holds
pub filled_same : (es fs : List (Label × ℕ)) → ((q : Label) → lookup (label_eq q) fs ≡ lookup (label_eq q) es) → 0 < length es → 0 < length fs
filled_same [] fs same some = absurd (omega arith)
filled_same (e ∷ es) fs same some = filled_put fs e.0 e.1 (lookup (label_eq e.0) es) (same e.0)

module _ {S : Type 0} where
  -- a maker's row, of which holds what holds of each, put in
  pub each_set : (P : HashMap Label ℕ S → Type 0) (old new : List (Label × HashMap Label ℕ S)) (maker : Label) (row : HashMap Label ℕ S)
      → ((m : Label) (r : HashMap Label ℕ S) → lookup (label_eq m) old ≡ Some r → P r)
      → ((q : Label) → lookup (label_eq q) new ≡ cond (label_eq maker q) (Some row) (lookup (label_eq q) old))
      → P row → (m : Label) (r : HashMap Label ℕ S) → lookup (label_eq m) new ≡ Some r → P r
  each_set P old new maker row each outer this m r e = by (label_eq maker m) (sym (outer m) ∙ e)
    where
      by : (b : Bool) → cond b (Some row) (lookup (label_eq m) old) ≡ Some r → P r
      by true is = let same : row ≡ r = cc in subst P same this
      by false is = each m r is

  -- a maker's row, with a number at least, put in
  pub filled_set : (old new : List (Label × HashMap Label ℕ S)) (maker : Label) (row : HashMap Label ℕ S)
      → ((m : Label) (r : HashMap Label ℕ S) → lookup (label_eq m) old ≡ Some r → 0 < length r.entries)
      → ((q : Label) → lookup (label_eq q) new ≡ cond (label_eq maker q) (Some row) (lookup (label_eq q) old))
      → 0 < length row.entries → (m : Label) (r : HashMap Label ℕ S) → lookup (label_eq m) new ≡ Some r → 0 < length r.entries
  filled_set = each_set (λ r. 0 < length r.entries)

  -- a number that is not 0, set
  pub above_set : (old new : List (Label × HashMap Label ℕ S)) (k : Home) (count : ℕ) → ((h : Home) (n : ℕ) → home_in old h ≡ Some n → 0 < n)
      → ((h : Home) → home_in new h ≡ cond (home_eq k h) (Some count) (home_in old h)) → 0 < count → (h : Home) (n : ℕ) → home_in new h ≡ Some n → 0 < n
  above_set old new k count above set some h n e = by (home_eq k h) (sym (set h) ∙ e)
    where
      by : (b : Bool) → cond b (Some count) (home_in old h) ≡ Some n → 0 < n
      by true is = let same : count ≡ n = cc in omega arith
      by false is = above h n is

  pub above_kept : (old new : List (Label × HashMap Label ℕ S)) → ((h : Home) (n : ℕ) → home_in old h ≡ Some n → 0 < n) → ((h : Home) → home_in new h ≡ home_in old h) → (h : Home) (n : ℕ) → home_in new h ≡ Some n → 0 < n
  above_kept old new above same h n e = above h n (sym (same h) ∙ e)

  pub homes_put : {T : Type 0} (old new : HashMap Label (HashMap Label ℕ S) T) (maker own : Label) (count : ℕ) (row : HashMap Label ℕ S)
      → AreHomes old → IsUnique label_eq new
      → ((q : Label) → lookup (label_eq q) new.entries ≡ cond (label_eq maker q) (Some row) (lookup (label_eq q) old.entries))
      → IsUnique label_eq row → 0 < length row.entries → 0 < count → ((h : Home) → home_in new.entries h ≡ cond (home_eq (home_of maker own) h) (Some count) (home_in old.entries h)) → AreHomes new
  homes_put old new maker own count row homes unique outer once filled some set = record {
    unique = unique;
    once = each_set (IsUnique label_eq) old.entries new.entries maker row homes.once outer once;
    filled = filled_set old.entries new.entries maker row homes.filled outer filled;
    above = above_set old.entries new.entries (home_of maker own) count homes.above set some;
  }

  pub homes_kept : {T : Type 0} (old new : HashMap Label (HashMap Label ℕ S) T) (maker : Label) (row : HashMap Label ℕ S)
      → AreHomes old → IsUnique label_eq new
      → ((q : Label) → lookup (label_eq q) new.entries ≡ cond (label_eq maker q) (Some row) (lookup (label_eq q) old.entries))
      → IsUnique label_eq row → 0 < length row.entries → ((h : Home) → home_in new.entries h ≡ home_in old.entries h) → AreHomes new
  homes_kept old new maker row homes unique outer once filled same = record {
    unique = unique;
    once = each_set (IsUnique label_eq) old.entries new.entries maker row homes.once outer once;
    filled = filled_set old.entries new.entries maker row homes.filled outer filled;
    above = above_kept old.entries new.entries homes.above same;
  }

  pub homes_unchanged : {T : Type 0} (old new : HashMap Label (HashMap Label ℕ S) T) → AreHomes old → IsUnique label_eq new → new.entries ≡ old.entries → AreHomes new
  homes_unchanged old new homes unique e = record {
    unique = unique;
    once = λ m r is. homes.once m r (ap (lookup (label_eq m)) (sym e) ∙ is);
    filled = λ m r is. homes.filled m r (ap (lookup (label_eq m)) (sym e) ∙ is);
    above = λ h n is. homes.above h n (ap (λ es. home_in es h) (sym e) ∙ is);
  }

  -- ---- equal counters
  maker_there : (rows : List (Label × HashMap Label ℕ S)) → ((m : Label) (r : HashMap Label ℕ S) → lookup (label_eq m) rows ≡ Some r → 0 < length r.entries) → (m : Label) (r : HashMap Label ℕ S) → lookup (label_eq m) rows ≡ Some r → (own : Label) × IsSome (home_in rows (home_of m own))
  maker_there rows filled m r e = first_of r.entries refl (filled m r e)
    where
      first_of : (es : List (Label × ℕ)) → r.entries ≡ es → 0 < length es → (own : Label) × IsSome (home_in rows (home_of m own))
      first_of [] is some = absurd (omega arith)
      first_of (x ∷ es) is some = (x.0, ap (λ o. is_some (option_and_then (λ (row : HashMap Label ℕ S). lookup (label_eq x.0) row.entries) o)) e ∙ (λ i. is_some (lookup (label_eq x.0) (is i))) ∙ ap (λ b. is_some (cond b (Some x.1) (lookup (label_eq x.0) es))) (itself label_eq label_total label_exact label_ties x.0))

  abbrev SameRow : HashMap Label ℕ S → HashMap Label ℕ S → Type 0
  SameRow r s = (q : Label) → lookup (label_eq q) r.entries ≡ lookup (label_eq q) s.entries

  rows_at : (o p : Option (HashMap Label ℕ S)) → AreAlike SameRow o p → (own : Label) → option_and_then (λ (r : HashMap Label ℕ S). lookup (label_eq own) r.entries) o ≡ option_and_then (λ (r : HashMap Label ℕ S). lookup (label_eq own) r.entries) p
  rows_at None None a own = refl
  rows_at None (Some s) a own = absurd a
  rows_at (Some r) None a own = absurd a
  rows_at (Some r) (Some s) a own = a own

  pub homes_alike : (shown : Label → Bool) (a b : List (Label × HashMap Label ℕ S)) → AreAlikeWhere shown SameRow (λ q. lookup (label_eq q) a) (λ q. lookup (label_eq q) b) → (h : Home) → IsTrue (shown h.maker) → home_in a h ≡ home_in b h
  homes_alike shown a b alike h s = rows_at (lookup (label_eq h.maker) a) (lookup (label_eq h.maker) b) (alike h.maker s) h.own

  pub rows_alike : (shown : Label → Bool) (a b : List (Label × HashMap Label ℕ S))
      → ((m : Label) (r : HashMap Label ℕ S) → lookup (label_eq m) a ≡ Some r → 0 < length r.entries) → ((m : Label) (r : HashMap Label ℕ S) → lookup (label_eq m) b ≡ Some r → 0 < length r.entries)
      → ((h : Home) → IsTrue (shown h.maker) → home_in a h ≡ home_in b h) → AreAlikeWhere shown SameRow (λ q. lookup (label_eq q) a) (λ q. lookup (label_eq q) b)
  rows_alike shown a b filled_a filled_b same m s = by (lookup (label_eq m) a) (lookup (label_eq m) b) refl refl
    where
      by : (o p : Option (HashMap Label ℕ S)) → lookup (label_eq m) a ≡ o → lookup (label_eq m) b ≡ p → AreAlike SameRow o p
      by None None e f = tt
      by None (Some r) e f =
          let there = maker_there b filled_b m r f in
          let none : home_in a (home_of m there.0) ≡ None = ap (option_and_then (λ (r : HashMap Label ℕ S). lookup (label_eq there.0) r.entries)) e in
          let some : false ≡ true = ap is_some (sym none ∙ same (home_of m there.0) s) ∙ there.1 in cc
      by (Some r) None e f =
          let there = maker_there a filled_a m r e in
          let none : home_in b (home_of m there.0) ≡ None = ap (option_and_then (λ (r : HashMap Label ℕ S). lookup (label_eq there.0) r.entries)) f in
          let some : false ≡ true = ap is_some (sym none ∙ sym (same (home_of m there.0) s)) ∙ there.1 in cc
      by (Some r) (Some t) e f = λ q.
          sym (ap (option_and_then (λ (r : HashMap Label ℕ S). lookup (label_eq q) r.entries)) e) ∙ same (home_of m q) s ∙ ap (option_and_then (λ (r : HashMap Label ℕ S). lookup (label_eq q) r.entries)) f

module _ {S : Type 0} (rows : List (Label × HashMap Label ℕ S)) (m : Counts) (unique : IsDistinct label_eq (keys_of rows)) (seen : from_entries (homes_in rows) ≡ m) where
  pub home_seen : (h : Home) → home_in rows h ≡ get m h
  home_seen h = sym (homes_at rows unique h) ∙ get_same home_eq home_total home_exact home_ties h (homes_in rows) ∙ ap (λ n. get n h) seen
