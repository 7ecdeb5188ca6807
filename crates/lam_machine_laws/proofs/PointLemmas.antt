-- Changes of a map at one key, and two maps that are equal at the keys that are seen.
use Rattle.std.proofs.Common.{◌≡◌, Bool, true, false, Option, Some, None, refl, sym, ap, ◌∙◌}
use Rattle.std.specs.Prelude.{cond}
use Rattle.std.specs.Ordering.{eq_by_cmp}
use Rattle.std.specs.declared.cmp.Ordering.{Ordering}
use Rattle.std.specs.Cmp.{IsTotalOrder, Equal-is}
use Rattle.std.specs.FinMap.{FinMap, IsAntisymmetric, get, insert, remove, retain_keys, get-insert, get-remove, get-retain_keys, same_map}

pub cond_same : {X : Type 0} (b : Bool) (x y : Option X) → (b ≡ true → x ≡ y) → cond b x None ≡ cond b y None
cond_same true x y h = h refl
cond_same false x y h = refl

-- all but one key keep what they have
abbrev pub IsPoint : {K X : Type 0} {R : K → K → Ordering} → FinMap R X → FinMap R X → K → Option X → Type 0
IsPoint {K} {X} {R} m n k y = (q : K) → get n q ≡ cond (eq_by_cmp R q k) y (get m q)

-- at the keys that pass, two maps have the same
abbrev pub Same : {K X : Type 0} {R : K → K → Ordering} → (K → Bool) → FinMap R X → FinMap R X → Type 0
Same {K} p m n = (q : K) → p q ≡ true → get m q ≡ get n q

module _ {K X : Type 0} {R : K → K → Ordering} (total : IsTotalOrder R) (exact : IsAntisymmetric R) where
  pub insert_point : (m : FinMap R X) (k : K) (v : X) → IsPoint m (insert m k v) k (Some v)
  insert_point m k v q = get-insert total m k v q

  pub remove_point : (m : FinMap R X) (k : K) → IsPoint m (remove m k) k None
  remove_point m k q = get-remove total m k q

  -- a map that stays, at a key that it says nothing of
  pub same_point : (m : FinMap R X) (k : K) (y : Option X) → get m k ≡ y → IsPoint m m k y
  same_point m k y e q = go (eq_by_cmp R q k) refl
    where
      go : (b : Bool) → eq_by_cmp R q k ≡ b → get m q ≡ cond b y (get m q)
      go true t = ap (λ (x : K). get m x) (exact q k ((Equal-is (R q k)).0 t)) ∙ e
      go false t = refl

  module _ (p : K → Bool) where
    pub point_kept : (m n : FinMap R X) (k : K) (y : Option X) → p k ≡ false → IsPoint m n k y → Same p m n
    point_kept m n k y hid h q s = sym (h q ∙ go (eq_by_cmp R q k) refl)
      where
        go : (b : Bool) → eq_by_cmp R q k ≡ b → cond b y (get m q) ≡ get m q
        go true e = let same = ap p (exact q k ((Equal-is (R q k)).0 e)) in cc
        go false e = refl

    pub point_same : (m m' n n' : FinMap R X) (k : K) (y y' : Option X) → IsPoint m n k y → IsPoint m' n' k y' → (p k ≡ true → y ≡ y') → Same p m m' → Same p n n'
    point_same m m' n n' k y y' h h' v all q s = h q ∙ go (eq_by_cmp R q k) refl ∙ sym (h' q)
      where
        go : (b : Bool) → eq_by_cmp R q k ≡ b → cond b y (get m q) ≡ cond b y' (get m' q)
        go true e = v (sym (ap p (exact q k ((Equal-is (R q k)).0 e))) ∙ s)
        go false e = all q s

    -- ---- what is kept of a map

    kept : (m : FinMap R X) (q : K) → get (retain_keys m p) q ≡ cond (p q) (get m q) None
    kept m q = get-retain_keys m p q (λ x t. ap p (sym (exact q x t)))

    kept_seen : (m : FinMap R X) (q : K) → p q ≡ true → get (retain_keys m p) q ≡ get m q
    kept_seen m q t = kept m q ∙ ap (λ b. cond b (get m q) None) t

    pub seen_get : (m n : FinMap R X) → retain_keys m p ≡ retain_keys n p → Same p m n
    seen_get m n e q t = sym (kept_seen m q t) ∙ ap (λ (l : FinMap R X). get l q) e ∙ kept_seen n q t

    pub seen_map : (m n : FinMap R X) → Same p m n → retain_keys m p ≡ retain_keys n p
    seen_map m n h = same_map total exact _ _ (λ q. kept m q ∙ cond_same (p q) _ _ (h q) ∙ sym (kept n q))

    pub same_refl : (m : FinMap R X) → Same p m m
    same_refl m q s = refl

    pub same_sym : (m n : FinMap R X) → Same p m n → Same p n m
    same_sym m n h q s = sym (h q s)

    pub same_trans : (l m n : FinMap R X) → Same p l m → Same p m n → Same p l n
    same_trans l m n h k q s = h q s ∙ k q s
