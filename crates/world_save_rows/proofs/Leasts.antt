-- The least of two kinds of numbers together is the lesser of their leasts.
use Rattle.std.proofs.Common.{◌≡◌, ◌≤◌, ◌<◌, ◌+◌, ◌⊎◌, inl, inr, ℕ, length, take, get_or, subst, Bool, true, false, List, [], ◌∷◌, ◌++◌, Option, Some, None, refl, sym, ap, ◌∙◌, arith, find, filter}
use Rattle.std.specs.Prelude.{◌&&◌, nat_le, nat_lt, if◌then◌else◌}
use Rattle.std.specs.FinSet.{contains}
use Rattle.std.proofs.lemmas.Bool.Decides.{nat_tests}
use Rattle.std.proofs.lemmas.List.{take_more, take_all}
use Rattle.tag_sets.specs.Rising.{has, first}
use Rattle.flow_labels.specs.Tags.{Tags, tags_of, lesser}
use Rattle.flow_labels.specs.declared.Label.{Label}
use Rattle.tag_sets.proofs.RisingLemmas.{first-filter, IsRising-filter, has-filter, first-some, first-none}
use Rattle.tag_sets.proofs.TagLemmas.{tags_of-rising, has-tags_of}
use Rattle.world_save_rows.specs.declared.home_list.HomeCount.{HomeCount}
use Rattle.world_save_rows.specs.Least.{IsLeastOf, IsFrom, IsInLabel, IsInHome, IsAmong}

less : (x y : ℕ) → nat_lt y x ≡ true → y ≤ x
less x y e = grind (arith, nat_tests)

not_less : (x y : ℕ) → nat_lt y x ≡ false → x ≤ y
not_less x y e = grind (arith, nat_tests)

module _ (P Q : ℕ → Type 0) where
  abbrev Both : ℕ → Type 0
  Both t = P t ⊎ Q t

  neither : ((t : ℕ) → P t → ⊥) → ((t : ℕ) → Q t → ⊥) → (t : ℕ) → Both t → ⊥
  neither p q t (inl x) = p t x
  neither p q t (inr y) = q t y

  below_both : (n : ℕ) → ((t : ℕ) → P t → n ≤ t) → ((t : ℕ) → Q t → n ≤ t) → (t : ℕ) → Both t → n ≤ t
  below_both n p q t (inl x) = p t x
  below_both n p q t (inr y) = q t y

  pub lesser_least : (a b : Option ℕ) → IsLeastOf P a → IsLeastOf Q b → IsLeastOf Both (lesser a b)
  lesser_least None None p q = neither p q
  lesser_least None (Some y) p q = (inr q.0, below_both y (λ t h. absurd (p t h)) q.1)
  lesser_least (Some x) None p q = (inl p.0, below_both x p.1 (λ t h. absurd (q t h)))
  lesser_least (Some x) (Some y) p q =
      elim (nat_lt y x) as (λ b. nat_lt y x ≡ b → IsLeastOf Both (if b then Some y else Some x)) [
        | true ↦ λ e. (inr q.0, below_both y (λ t h. let k = less x y e in let m = p.1 t h in omega arith) q.1)
        | false ↦ λ e. (inl p.0, below_both x p.1 (λ t h. let k = not_less x y e in let m = q.1 t h in omega arith))
      ] refl

  pub same_least : ((t : ℕ) → P t → Q t) → ((t : ℕ) → Q t → P t) → (r : Option ℕ) → IsLeastOf P r → IsLeastOf Q r
  same_least f g None h = λ t q. h t (g t q)
  same_least f g (Some x) h = (f x h.0, λ t q. h.1 t (g t q))

-- ---- a set, from a number on

both_true : (a b : Bool) → (a && b) ≡ true → (a ≡ true) × (b ≡ true)
both_true true b e = (refl, e)
both_true false b e = absurd cc

pub le_true : (a b : ℕ) → a ≤ b → nat_le a b ≡ true
le_true a b h = grind (arith, nat_tests)

pub above : (a b : ℕ) → b < a → nat_le a b ≡ false
above a b h = grind (arith, nat_tests)

true_le : (a b : ℕ) → nat_le a b ≡ true → a ≤ b
true_le a b h = grind (arith, nat_tests)

module _ (count : ℕ) (s : Tags) where
  kept : List ℕ
  kept = filter (nat_le count) (tags_of s)

  has_kept : (t : ℕ) → has (filter (nat_le count) (tags_of s)) t ≡ (contains s t && nat_le count t)
  has_kept t = has-filter (nat_le count) (tags_of s) t ∙ ap (λ b. b && nat_le count t) (has-tags_of s t)

  is_kept : (t : ℕ) → IsFrom count s t → has (filter (nat_le count) (tags_of s)) t ≡ true
  is_kept t h = has_kept t ∙ (λ i. h.1 i && le_true count t h.0 i)

  from_kept : (t : ℕ) → has (filter (nat_le count) (tags_of s)) t ≡ true → IsFrom count s t
  from_kept t e = let p = both_true (contains s t) (nat_le count t) (sym (has_kept t) ∙ e) in (true_le count t p.1, p.0)

  by_first : (r : Option ℕ) → first (filter (nat_le count) (tags_of s)) ≡ r → IsLeastOf (IsFrom count s) r
  by_first None e = λ t h. let yes = is_kept t h in let none = first-none (filter (nat_le count) (tags_of s)) e t in absurd (true_false yes none)
    where
      true_false : {b : Bool} → b ≡ true → b ≡ false → ⊥
      true_false x y = let both : true ≡ false = sym x ∙ y in cc
  by_first (Some t) e =
      let p = first-some (filter (nat_le count) (tags_of s)) t (IsRising-filter (nat_le count) (tags_of s) (tags_of-rising s)) e in
      (from_kept t p.0, λ u h. p.1 u (is_kept u h))

  pub found_least : (r : Option ℕ) → r ≡ find (nat_le count) (tags_of s) → IsLeastOf (IsFrom count s) r
  found_least r e = by_first r (sym (e ∙ first-filter (nat_le count) (tags_of s)))

-- ---- labels and homes

module _ (count : ℕ) where
  label_from : (l : Label) (t : ℕ) → IsFrom count l.s t ⊎ IsFrom count l.i t → IsInLabel count l t
  label_from l t (inl h) = (h.0, inl h.1)
  label_from l t (inr h) = (h.0, inr h.1)

  from_label : (l : Label) (t : ℕ) → IsInLabel count l t → IsFrom count l.s t ⊎ IsFrom count l.i t
  from_label l t (n, inl h) = inl (n, h)
  from_label l t (n, inr h) = inr (n, h)

  pub label_least : (l : Label) (a b r : Option ℕ) → IsLeastOf (IsFrom count l.s) a → IsLeastOf (IsFrom count l.i) b → r ≡ lesser a b → IsLeastOf (IsInLabel count l) r
  label_least l a b r p q e =
      same_least (λ t. IsFrom count l.s t ⊎ IsFrom count l.i t) (IsInLabel count l) (label_from l) (from_label l) r
      (rw e (lesser_least (IsFrom count l.s) (IsFrom count l.i) a b p q))

  pub home_least : (h : HomeCount) (a b r : Option ℕ) → IsLeastOf (IsInLabel count h.maker.now) a → IsLeastOf (IsInLabel count h.own.now) b → r ≡ lesser a b → IsLeastOf (IsInHome count h) r
  home_least h a b r p q e = rw e (lesser_least (IsInLabel count h.maker.now) (IsInLabel count h.own.now) a b p q)

  -- one home more
  with_last : (hs : List HomeCount) (h : HomeCount) (t : ℕ) → IsAmong count hs t ⊎ IsInHome count h t → IsAmong count (hs ++ h ∷ []) t
  with_last [] h t (inl x) = absurd x
  with_last [] h t (inr x) = inl x
  with_last (k ∷ hs) h t (inl (inl x)) = inl x
  with_last (k ∷ hs) h t (inl (inr x)) = inr (with_last hs h t (inl x))
  with_last (k ∷ hs) h t (inr x) = inr (with_last hs h t (inr x))

  by_last : (hs : List HomeCount) (h : HomeCount) (t : ℕ) → IsAmong count (hs ++ h ∷ []) t → IsAmong count hs t ⊎ IsInHome count h t
  by_last [] h t (inl x) = inr x
  by_last [] h t (inr x) = absurd x
  by_last (k ∷ hs) h t (inl x) = inl (inl x)
  by_last (k ∷ hs) h t (inr x) = later (by_last hs h t x)
    where
      later : IsAmong count hs t ⊎ IsInHome count h t → IsAmong count (k ∷ hs) t ⊎ IsInHome count h t
      later (inl y) = inl (inr y)
      later (inr y) = inr y

  pub among_more : (hs : List HomeCount) (h : HomeCount) (a b r : Option ℕ) → IsLeastOf (IsAmong count hs) a → IsLeastOf (IsInHome count h) b → r ≡ lesser a b → IsLeastOf (IsAmong count (hs ++ h ∷ [])) r
  among_more hs h a b r p q e =
      same_least (λ t. IsAmong count hs t ⊎ IsInHome count h t) (IsAmong count (hs ++ h ∷ [])) (with_last hs h) (by_last hs h) r
      (rw e (lesser_least (IsAmong count hs) (IsInHome count h) a b p q))

  module _ (hs : List HomeCount) (i : ℕ) where
    pub one_home_more : (h : HomeCount) → i < length hs → h ≡ get_or hs i h → (a b r : Option ℕ) → IsLeastOf (IsAmong count (take i hs)) a → IsLeastOf (IsInHome count h) b → r ≡ lesser a b → IsLeastOf (IsAmong count (take (i + 1) hs)) r
    one_home_more h within is a b r p q e =
        subst (λ ks. IsLeastOf (IsAmong count ks) r) (sym (take_more hs i h within ∙ ap (λ k. take i hs ++ k ∷ []) (sym is)))
        (among_more (take i hs) h a b r p q e)

    pub all_homes : length hs ≤ i → (r : Option ℕ) → IsLeastOf (IsAmong count (take i hs)) r → IsLeastOf (IsAmong count hs) r
    all_homes past r p = subst (λ ks. IsLeastOf (IsAmong count ks) r) (take_all i hs past) p
