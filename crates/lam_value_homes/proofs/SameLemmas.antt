-- Two maps of as many entries, in one of which each entry of the other is found, have the same at every key.
use Rattle.std.proofs.Common.{◌≡◌, ◌+◌, ℕ, zero, suc, ◌++◌, take, slice_get, Bool, true, false, cond, List, [], ◌∷◌, length, Option, Some, None, is_some, refl, sym, ap, subst, ◌∙◌, arith}
use Rattle.std.specs.Prelude.{IsTrue, ◌||◌}
use Rattle.std.specs.Map.{lookup, keys_of}
use Rattle.std.specs.List.{IsDistinct, filter, list_any, AllByRecursion}
use Rattle.std.specs.Cmp.{IsEquivalence, IsTotalOrder}
use Rattle.std.specs.Ordering.{eq_by_cmp}
use Rattle.std.specs.declared.cmp.Ordering.{Ordering}
use Rattle.std.specs.Option.{option_map, unwrap_or}
use Rattle.std.specs.FinMap.{get, same_map, IsAntisymmetric}
use Rattle.std.proofs.lemmas.Map.Made.{length-le_from_is_member, length-from_same_keys, IsDistinct-keys_filter, is_some-lookup}
use Rattle.std.proofs.lemmas.Map.Entries.{length-keys_of, lookup_from_place}
use Rattle.lam_value_homes.specs.Alike.{AreAlike, AreAlikeWhere, HasAlike}
use Rattle.lam_value_homes.specs.Maps.{seen_at}
use Rattle.lam_value_homes.proofs.Maps.{get_seen}
use Rattle.lam_value_homes.proofs.Rows.{taken}

some_of : {X : Type 0} (IsSame : X → X → Type 0) (x : X) (o : Option X) → AreAlike IsSame (Some x) o → is_some o ≡ true
some_of IsSame x None a = absurd a
some_of IsSame x (Some y) a = refl

as_many : {X : Type 0} (IsSame : X → X → Type 0) (o r : Option X) → AreAlike IsSame o r → is_some o ≡ is_some r
as_many IsSame None None a = refl
as_many IsSame None (Some y) a = absurd a
as_many IsSame (Some x) None a = absurd a
as_many IsSame (Some x) (Some y) a = refl

-- what is shown of the keys that an entry adds
at_shown : {X : Type 0} (b c d : Bool) (x : X) (o : Option X) → (b ≡ true → d ≡ c) → cond d (cond b (Some x) (cond c o None)) (cond c o None) ≡ cond c (cond b (Some x) o) None
at_shown true true d x o same = ap (λ e. cond e (Some x) o) (same refl)
at_shown true false d x o same = ap (λ e. cond e (Some x) None) (same refl)
at_shown false c true x o same = refl
at_shown false c false x o same = refl

module _ {K X : Type 0} {E : K → K → Bool} (laws : IsEquivalence E) (shown : K → Bool) (follows : (x y : K) → E x y ≡ true → shown x ≡ shown y) (IsSame : X → X → Type 0) where
  -- the shown entries
  abbrev pub kept : List (K × X) → List (K × X)
  kept es = filter (λ e. shown e.0) es

  lookup_kept : (q : K) (es : List (K × X)) → lookup (E q) (kept es) ≡ cond (shown q) (lookup (E q) es) None
  lookup_kept q [] = elim (shown q) as (λ b. ◌≡◌ {A = Option X} None (cond b None None)) [ true ↦ refl | false ↦ refl ]
  lookup_kept q (e ∷ es) =
      by (shown e.0)
      ∙ ap (λ o. cond (shown e.0) (cond (E q e.0) (Some e.1) o) o) (lookup_kept q es)
      ∙ at_shown (E q e.0) (shown q) (shown e.0) e.1 (lookup (E q) es) (λ t. sym (follows q e.0 t))
    where
      by : (b : Bool) → lookup (E q) (cond b (e ∷ kept es) (kept es)) ≡ cond b (cond (E q e.0) (Some e.1) (lookup (E q) (kept es))) (lookup (E q) (kept es))
      by true = refl
      by false = refl

  same_lookup : (x y : K) (es : List (K × X)) → E x y ≡ true → lookup (E x) es ≡ lookup (E y) es
  same_lookup x y [] t = refl
  same_lookup x y (e ∷ es) t = (λ i. cond (laws.congr x y e.0 t i) (Some e.1) (same_lookup x y es t i))

  -- what stands at a shown key is found
  alike_at : (es fs : List (K × X)) → HasAlike shown IsSame (λ q. lookup (E q) fs) es → (q : K) (v : X) → IsTrue (shown q) → lookup (E q) es ≡ Some v → AreAlike IsSame (Some v) (lookup (E q) fs)
  alike_at [] fs has q v s e = cc
  alike_at (x ∷ es) fs has q v s e = by (E q x.0) refl (alike_at es fs has.1 q v s) e
    where
      by : (b : Bool) → E q x.0 ≡ b → (lookup (E q) es ≡ Some v → AreAlike IsSame (Some v) (lookup (E q) fs)) → cond b (Some x.1) (lookup (E q) es) ≡ Some v → AreAlike IsSame (Some v) (lookup (E q) fs)
      by true t later is = subst (λ o. AreAlike IsSame o (lookup (E q) fs)) is (subst (AreAlike IsSame (Some x.1)) (sym (same_lookup q x.0 fs t)) (has.0 (sym (follows q x.0 t) ∙ s)))
      by false t later is = later is

  member_kept : (es : List (K × X)) (q : K) → list_any (E q) (keys_of (kept es)) ≡ is_some (cond (shown q) (lookup (E q) es) None)
  member_kept es q = sym (is_some-lookup (E q) (kept es)) ∙ ap is_some (lookup_kept q es)

  is_kept : (es : List (K × X)) (q : K) → list_any (E q) (keys_of (kept es)) ≡ true → (IsTrue (shown q)) × (is_some (lookup (E q) es) ≡ true)
  is_kept es q t = by (shown q) (sym (member_kept es q) ∙ t)
    where
      by : (b : Bool) → is_some (cond b (lookup (E q) es) None) ≡ true → (IsTrue b) × (is_some (lookup (E q) es) ≡ true)
      by true s = (refl, s)
      by false s = cc

  distinct_kept : (es : List (K × X)) → IsDistinct E (keys_of es) → IsDistinct E (keys_of (kept es))
  distinct_kept es d = IsDistinct-keys_filter E (λ e. shown e.0) es d

  apart_kept : (q : K) (ks : List K) → list_any (E q) ks ≡ false → AllByRecursion (λ y. E q y ≡ false) ks
  apart_kept q [] none = tt
  apart_kept q (k ∷ ks) none = by (E q k) refl (apart_kept q ks) none
    where
      by : (b : Bool) → E q k ≡ b → (list_any (E q) ks ≡ false → AllByRecursion (λ y. E q y ≡ false) ks) → (b || list_any (E q) ks) ≡ false → (E q k ≡ false) × AllByRecursion (λ y. E q y ≡ false) ks
      by true t later n = cc
      by false t later n = (t, later n)

  module _ (es fs : List (K × X)) (one : IsDistinct E (keys_of es)) (two : IsDistinct E (keys_of fs)) where
    within : HasAlike shown IsSame (λ q. lookup (E q) fs) es → (q : K) → list_any (E q) (keys_of (kept es)) ≡ true → list_any (E q) (keys_of (kept fs)) ≡ true
    within has q t =
        let p = is_kept es q t in
        member_kept fs q ∙ ap (λ b. is_some (cond b (lookup (E q) fs) None)) p.0 ∙ by (lookup (E q) es) refl p.0 p.1
      where
        by : (o : Option X) → lookup (E q) es ≡ o → IsTrue (shown q) → is_some o ≡ true → is_some (lookup (E q) fs) ≡ true
        by None e s t = cc
        by (Some v) e s t = some_of IsSame v (lookup (E q) fs) (alike_at es fs has q v s e)

    cons_distinct : (q : K) (ks : List K) → list_any (E q) ks ≡ false → IsDistinct E ks → IsDistinct E (q ∷ ks)
    unfolding IsDistinct
    cons_distinct q ks none d = (apart_kept q ks none, d)

    member_cons : (x q : K) → list_any (E x) (keys_of (kept fs)) ≡ true → HasAlike shown IsSame (λ q. lookup (E q) fs) es → list_any (E q) (x ∷ keys_of (kept es)) ≡ true → list_any (E q) (keys_of (kept fs)) ≡ true
    member_cons x q there has t = by (E q x) refl t
      where
        by : (b : Bool) → E q x ≡ b → (b || list_any (E q) (keys_of (kept es))) ≡ true → list_any (E q) (keys_of (kept fs)) ≡ true
        by true e t = member_kept fs q ∙ (λ i. is_some (cond (follows q x e i) (same_lookup q x fs e i) None)) ∙ sym (member_kept fs x) ∙ there
        by false e t = within has q t

    -- with as many shown entries in both, none of the second is missing in the first
    none_missing : length (kept es) ≡ length (kept fs) → HasAlike shown IsSame (λ q. lookup (E q) fs) es → (q : K) → list_any (E q) (keys_of (kept fs)) ≡ true → list_any (E q) (keys_of (kept es)) ≡ false → ⊥
    none_missing len has q there none =
        let longer = length-le_from_is_member laws (q ∷ keys_of (kept es)) (keys_of (kept fs)) (cons_distinct q (keys_of (kept es)) none (distinct_kept es one)) (λ k t. member_cons q k there has t) in
        let a = length-keys_of (kept es) in
        let b = length-keys_of (kept fs) in
        absurd (omega arith)

    pub alike_where : length (kept es) ≡ length (kept fs) → HasAlike shown IsSame (λ q. lookup (E q) fs) es → AreAlikeWhere shown IsSame (λ q. lookup (E q) es) (λ q. lookup (E q) fs)
    alike_where len has q s = by (lookup (E q) es) refl
      where
        gone : lookup (E q) es ≡ None → (o : Option X) → lookup (E q) fs ≡ o → AreAlike IsSame None o
        gone e None f = tt
        gone e (Some w) f =
            none_missing len has q
            (member_kept fs q ∙ (λ i. is_some (cond (s i) (f i) None)))
            (member_kept es q ∙ (λ i. is_some (cond (s i) (e i) None)))

        by : (o : Option X) → lookup (E q) es ≡ o → AreAlike IsSame o (lookup (E q) fs)
        by None e = gone e (lookup (E q) fs) refl
        by (Some v) e = alike_at es fs has q v s e

    pub as_many_shown : AreAlikeWhere shown IsSame (λ q. lookup (E q) es) (λ q. lookup (E q) fs) → length (kept es) ≡ length (kept fs)
    as_many_shown alike =
        sym (length-keys_of (kept es))
        ∙ length-from_same_keys laws (keys_of (kept es)) (keys_of (kept fs)) (distinct_kept es one) (distinct_kept fs two) (λ q. member_kept es q ∙ by q (shown q) refl ∙ sym (member_kept fs q))
        ∙ length-keys_of (kept fs)
      where
        by : (q : K) (b : Bool) → shown q ≡ b → is_some (cond b (lookup (E q) es) None) ≡ is_some (cond b (lookup (E q) fs) None)
        by q true s = as_many IsSame (lookup (E q) es) (lookup (E q) fs) (alike q s)
        by q false s = refl

    each_alike : (xs : List (K × X)) → ((i : ℕ) (e : K × X) → slice_get xs i ≡ Some e → IsTrue (shown e.0) → AreAlike IsSame (Some e.1) (lookup (E e.0) fs)) → HasAlike shown IsSame (λ q. lookup (E q) fs) xs
    each_alike [] all = tt
    each_alike (x ∷ xs) all = (all 0 x refl, each_alike xs (λ i e at. all (suc i) e at))

    pub has_alike_from : AreAlikeWhere shown IsSame (λ q. lookup (E q) es) (λ q. lookup (E q) fs) → HasAlike shown IsSame (λ q. lookup (E q) fs) es
    has_alike_from alike = each_alike es (λ i e at s. subst (λ o. AreAlike IsSame o (lookup (E e.0) fs)) (lookup_from_place laws es i e.0 e.1 one at) (alike e.0 s))

-- ---- entry by entry
count_kept : {X : Type 0} (b : Bool) (x : X) (xs : List X) → length (cond b (x ∷ xs) xs) ≡ cond b 1 0 + length xs
count_kept true x xs = omega arith
count_kept false x xs = omega arith

count_last : {X : Type 0} (p : X → Bool) (xs : List X) (x : X) → length (filter p (xs ++ x ∷ [])) ≡ length (filter p xs) + cond (p x) 1 0
count_last p [] x = by (p x)
  where
    by : (b : Bool) → length (cond b (x ∷ []) []) ≡ 0 + cond b 1 0
    by true = refl
    by false = refl
count_last p (y ∷ xs) x =
    let a = count_kept (p y) y (filter p (xs ++ x ∷ [])) in
    let b = count_kept (p y) y (filter p xs) in
    let c = count_last p xs x in
    omega arith

-- one entry more is counted, or is not shown
pub count_more : {X : Type 0} (p : X → Bool) (es : List X) (i : ℕ) (x : X) → slice_get es i ≡ Some x → length (filter p (take (i + 1) es)) ≡ length (filter p (take i es)) + cond (p x) 1 0
count_more p es i x at = ap (λ xs. length (filter p xs)) (taken es i x at) ∙ count_last p (take i es) x

module _ {K X : Type 0} (shown : K → Bool) (IsSame : X → X → Type 0) (f : K → Option X) where
  alike_last : (es : List (K × X)) (e : K × X) → HasAlike shown IsSame f es → (IsTrue (shown e.0) → AreAlike IsSame (Some e.1) (f e.0)) → HasAlike shown IsSame f (es ++ e ∷ [])
  alike_last [] e all one = (one, tt)
  alike_last (x ∷ es) e all one = (all.0, alike_last es e all.1 one)

  pub alike_more : (es : List (K × X)) (i : ℕ) (e : K × X) → slice_get es i ≡ Some e → HasAlike shown IsSame f (take i es) → (IsTrue (shown e.0) → AreAlike IsSame (Some e.1) (f e.0)) → HasAlike shown IsSame f (take (i + 1) es)
  alike_more es i e at all one = subst (HasAlike shown IsSame f) (sym (taken es i e at)) (alike_last (take i es) e all one)

  pub alike_one : (es : List (K × X)) (i : ℕ) (e : K × X) → slice_get es i ≡ Some e → HasAlike shown IsSame f es → IsTrue (shown e.0) → AreAlike IsSame (Some e.1) (f e.0)
  alike_one [] i e at all s = cc
  alike_one (x ∷ es) zero e at all s = let same : x ≡ e = cc in subst (λ (p : K × X). IsTrue (shown p.0) → AreAlike IsSame (Some p.1) (f p.0)) same all.0 s
  alike_one (x ∷ es) (suc i) e at all s = alike_one es i e at all.1 s

-- ---- what is seen of the values, compared
pub mapped_same : {X Y : Type 0} (f : X → Y) (o p : Option X) → AreAlike (λ x y. f x ≡ f y) o p → option_map f o ≡ option_map f p
mapped_same f None None a = refl
mapped_same f None (Some y) a = absurd a
mapped_same f (Some x) None a = absurd a
mapped_same f (Some x) (Some y) a = ap Some a

pub alike_mapped : {X Y : Type 0} (f : X → Y) (o p : Option X) → option_map f o ≡ option_map f p → AreAlike (λ x y. f x ≡ f y) o p
alike_mapped f None None e = tt
alike_mapped f None (Some y) e = let no : false ≡ true = ap is_some e in cc
alike_mapped f (Some x) None e = let no : true ≡ false = ap is_some e in cc
alike_mapped f (Some x) (Some y) e = ap (λ o. unwrap_or o (f x)) e

module _ {K X Y : Type 0} (R : K → K → Ordering) (E : K → K → Bool) (f : X → Y) (o : IsTotalOrder R) (same : IsAntisymmetric R) (ties : (a b : K) → E a b ≡ eq_by_cmp R a b) where
  -- two maps that are alike at the shown keys are seen alike there
  pub seen_where : (shown : K → Bool) (es fs : List (K × X)) → AreAlikeWhere shown (λ x y. f x ≡ f y) (λ q. lookup (E q) es) (λ q. lookup (E q) fs) → (q : K) → IsTrue (shown q) → get (seen_at R f es) q ≡ get (seen_at R f fs) q
  seen_where shown es fs alike q s = get_seen R E f o same ties es q ∙ mapped_same f (lookup (E q) es) (lookup (E q) fs) (alike q s) ∙ sym (get_seen R E f o same ties fs q)

  pub where_seen : (shown : K → Bool) (es fs : List (K × X)) → ((q : K) → IsTrue (shown q) → get (seen_at R f es) q ≡ get (seen_at R f fs) q) → AreAlikeWhere shown (λ x y. f x ≡ f y) (λ q. lookup (E q) es) (λ q. lookup (E q) fs)
  where_seen shown es fs is q s = alike_mapped f (lookup (E q) es) (lookup (E q) fs) (sym (get_seen R E f o same ties es q) ∙ is q s ∙ get_seen R E f o same ties fs q)

  -- and those that are alike everywhere are seen as the same
  pub seen_same_map : (es fs : List (K × X)) → AreAlikeWhere (λ _. true) (λ x y. f x ≡ f y) (λ q. lookup (E q) es) (λ q. lookup (E q) fs) → seen_at R f es ≡ seen_at R f fs
  seen_same_map es fs alike = same_map o same _ _ (λ q. seen_where (λ _. true) es fs alike q refl)

  pub same_map_alike : (es fs : List (K × X)) → seen_at R f es ≡ seen_at R f fs → AreAlikeWhere (λ _. true) (λ x y. f x ≡ f y) (λ q. lookup (E q) es) (λ q. lookup (E q) fs)
  same_map_alike es fs e = where_seen (λ _. true) es fs (λ q _. ap (λ m. get m q) e)

pub map_self : {X : Type 0} (o : Option X) → option_map (λ (x : X). x) o ≡ o
map_self None = refl
map_self (Some x) = refl
