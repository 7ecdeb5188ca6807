-- The orders of labels, names and homes are total and tell all apart, and `==` is true where they tie. Here those of names.
use Rattle.std.proofs.Common.{◌≡◌}
use Rattle.std.specs.Ordering.{nat_cmp, ordering_then, eq_by_cmp}
use Rattle.std.specs.Cmp.{IsTotalOrder, both_tied, unsigned_ties}
use Rattle.std.proofs.lemmas.Cmp.{nat_cmp_total, on_total, then_total}
use Rattle.std.specs.FinMap.{IsAntisymmetric, nat_cmp-IsAntisymmetric}
use Rattle.lam_value.specs.declared.names.Name.{Name}
use Rattle.lam_value.specs.Names.{label_cmp, name_cmp}
pub use Rattle.lam_value.specs.Names.{name_eq}
use Rattle.lam_value_homes.proofs.Keys.{then_parts}
pub use Rattle.lam_value_homes.proofs.Keys.{label_exact, home_exact, label_total, home_total, label_ties, home_ties}

-- ---- what ties is equal
pub name_exact : IsAntisymmetric name_cmp
name_exact x y e =
    let p = then_parts (label_cmp x.maker y.maker) (ordering_then (label_cmp x.own y.own) (nat_cmp x.n y.n)) e in
    let q = then_parts (label_cmp x.own y.own) (nat_cmp x.n y.n) p.1 in
    let a = label_exact x.maker y.maker p.0 in
    let b = label_exact x.own y.own q.0 in
    let c = nat_cmp-IsAntisymmetric x.n y.n q.1 in
    λ i. record { maker = a i; own = b i; n = c i }

-- ---- the orders are total
pub name_total : IsTotalOrder name_cmp
name_total = then_total (on_total (λ (n : Name). n.maker) label_total) (then_total (on_total (λ (n : Name). n.own) label_total) (on_total (λ (n : Name). n.n) nat_cmp_total))

-- ---- `==` is true exactly where the order ties
pub name_ties : (a b : Name) → name_eq a b ≡ eq_by_cmp name_cmp a b
name_ties a b =
    both_tied _ _ (label_cmp a.maker b.maker) (ordering_then (label_cmp a.own b.own) (nat_cmp a.n b.n)) (label_ties a.maker b.maker)
    (both_tied _ _ (label_cmp a.own b.own) (nat_cmp a.n b.n) (label_ties a.own b.own) (unsigned_ties a.n b.n))
