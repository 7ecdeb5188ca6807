-- Tags that are below a number.
use Rattle.std.proofs.Common.{◌≡◌, ℕ, ◌<◌, Bool, true, false, List, [], ◌∷◌, refl, sym, ◌∙◌, arith}
use Rattle.std.specs.Prelude.{◌||◌}
use Rattle.std.specs.List.{AllByRecursion}
use Rattle.std.specs.Ordering.{eq_by_cmp, nat_cmp}
use Rattle.std.specs.Cmp.{Equal-is}
use Rattle.std.specs.FinMap.{nat_cmp-IsAntisymmetric}
use Rattle.std.specs.FinSet.{contains, empty, from_list, union, contains-empty, contains-insert, contains-union}
use Rattle.std.specs.FinSet as set
use Rattle.std.proofs.lemmas.Cmp.{nat_cmp_total}
use Rattle.flow_labels.specs.Tags.{Tags}
use Rattle.flow_labels.specs.Flow.{public_label}
use Rattle.lam_machine_laws.specs.Worlds.{World}
use Rattle.lam_machine_laws.specs.Valid.{AreBelow, IsKnown}

pub below_empty : (n : ℕ) → AreBelow n empty
below_empty n t e = let f = contains-empty nat_cmp t in cc

pub public_known : (w : World) → IsKnown w public_label
public_known w = (below_empty w.next_tag, below_empty w.next_tag)

one_of : (a b : Bool) {X : Type 0} → (a || b) ≡ true → (a ≡ true → X) → (b ≡ true → X) → X
one_of true b e f g = f refl
one_of false b e f g = g e

pub below_insert : (n : ℕ) (s : Tags) (k : ℕ) → k < n → AreBelow n s → AreBelow n (set.insert s k)
below_insert n s k l h t e =
    one_of (eq_by_cmp nat_cmp t k) (contains s t) (sym (contains-insert nat_cmp_total s k t) ∙ e)
    (λ q. let same = nat_cmp-IsAntisymmetric t k ((Equal-is (nat_cmp t k)).0 q) in omega arith)
    (λ q. h t q)

pub below_list : (n : ℕ) (ts : List ℕ) → AllByRecursion (λ (t : ℕ). t < n) ts → AreBelow n (from_list ts)
below_list n [] h = below_empty n
below_list n (t ∷ ts) h = below_insert n (from_list ts) t h.0 (below_list n ts h.1)

pub below_union : (n : ℕ) (s r : Tags) → AreBelow n s → AreBelow n r → AreBelow n (union s r)
below_union n s r h k t e = one_of (contains s t) (contains r t) (sym (contains-union nat_cmp_total s r t) ∙ e) (h t) (k t)
