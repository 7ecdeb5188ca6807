-- A map of std and the finite map that is seen of it answer alike.
use Rattle.std.proofs.Common.{Ordering, Less, Equal, Greater, OnOk, IsSome, OnErr, Result, Ok, Err, is_some, ◌≡◌, Bool, true, false, cond, List, [], ◌∷◌, map, Option, Some, None, refl, sym, ap, ◌∙◌}
use Rattle.std.specs.Ordering.{eq_by_cmp, is_eq}
use Rattle.std.specs.Cmp.{IsTotalOrder, eq_by_cmp_equiv}
use Rattle.std.specs.Option.{option_map}
use Rattle.std.specs.Map.{lookup}
use Rattle.std.specs.FinMap.{FinMap, find, get, insert, get-from_entries, get-insert, same_map, IsAntisymmetric}
use Rattle.lam_value_homes.specs.Maps.{seen_at}

map_cond : {X Y : Type 0} (f : X → Y) (b : Bool) (x : X) (o : Option X) → option_map f (cond b (Some x) o) ≡ cond b (Some (f x)) (option_map f o)
map_cond f true x o = refl
map_cond f false x o = refl

module _ {K X Y : Type 0} (R : K → K → Ordering) (E : K → K → Bool) (f : X → Y) (o : IsTotalOrder R) (same : IsAntisymmetric R) (ties : (a b : K) → E a b ≡ eq_by_cmp R a b) where
  find_seen : (es : List (K × X)) (q : K) → find R q (map {B = K × Y} (λ (e : K × X). (e.0, f e.1)) es) ≡ option_map f (lookup (E q) es)
  find_seen [] q = refl
  find_seen (e ∷ es) q =
      ap (λ b. cond b (Some (f e.1)) (find R q (map {B = K × Y} (λ (e : K × X). (e.0, f e.1)) es))) (sym (ties q e.0))
      ∙ ap (cond (E q e.0) (Some (f e.1))) (find_seen es q)
      ∙ sym (map_cond f (E q e.0) e.1 (lookup (E q) es))

  pub get_seen : (es : List (K × X)) (q : K) → get (seen_at R f es) q ≡ option_map f (lookup (E q) es)
  get_seen es q = get-from_entries o _ q ∙ find_seen es q

  pub seen_same : (es fs : List (K × X)) → ((q : K) → lookup (E q) fs ≡ lookup (E q) es) → seen_at R f fs ≡ seen_at R f es
  seen_same es fs h = same_map o same _ _ (λ q. get_seen fs q ∙ ap (option_map f) (h q) ∙ sym (get_seen es q))

  pub seen_insert : (es fs : List (K × X)) (k : K) (v : X) → ((q : K) → lookup (E q) fs ≡ cond (E k q) (Some v) (lookup (E q) es)) → seen_at R f fs ≡ insert (seen_at R f es) k (f v)
  seen_insert es fs k v h = same_map o same _ _ (λ q.
      get_seen fs q ∙ ap (option_map f) (h q) ∙ map_cond f (E k q) v (lookup (E q) es)
      ∙ ap (λ b. cond b (Some (f v)) (option_map f (lookup (E q) es))) (ties k q ∙ (eq_by_cmp_equiv o).symm k q)
      ∙ ap (cond (eq_by_cmp R q k) (Some (f v))) (sym (get_seen es q))
      ∙ sym (get-insert o (seen_at R f es) k (f v) q))

pub some_is : {X : Type 0} (o : Option X) (v : X) → o ≡ Some v → IsSome o
some_is o v e = ap is_some e

pub on_err : {X Y : Type 0} (P : Type 0) (r : Result X Y) → P → OnErr r P
on_err P (Ok x) p = tt
on_err P (Err y) p = p

pub on_ok_so : {X Y : Type 0} (P Q : Type 0) (r : Result X Y) → (P → Q) → OnOk r P → OnOk r Q
on_ok_so P Q (Ok x) f p = f p
on_ok_so P Q (Err y) f p = tt

pub on_err_so : {X Y : Type 0} (P Q : Type 0) (r : Result X Y) → (P → Q) → OnErr r P → OnErr r Q
on_err_so P Q (Ok x) f p = tt
on_err_so P Q (Err y) f p = f p

pub on_ok : {X Y : Type 0} (P : Type 0) (r : Result X Y) → P → OnOk r P
on_ok P (Ok x) p = p
on_ok P (Err y) p = tt

-- to put back what is there changes nothing
pub insert_same : {K Y : Type 0} (R : K → K → Ordering) (o : IsTotalOrder R) (same : IsAntisymmetric R) (m : FinMap R Y) (k : K) (v : Y) → get m k ≡ Some v → insert m k v ≡ m
insert_same R o same m k v have =
    same_map o same _ _ (λ q. get-insert o m k v q
    ∙ elim (R q k) as (λ r. R q k ≡ r → cond (is_eq r) (Some v) (get m q) ≡ get m q) [
      | Less ↦ λ _. refl
      | Equal ↦ λ e. sym (ap (get m) (same q k e) ∙ have)
      | Greater ↦ λ _. refl
    ] refl)

pub not_none : {X : Type 0} (o : Option X) → IsSome o → o ≡ None → ⊥
not_none o h e = let f : false ≡ true = ap is_some (sym e) ∙ h in cc
