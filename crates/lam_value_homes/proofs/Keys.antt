-- The orders of labels and homes are total and tell all apart, and `==` is true where they tie.
use Rattle.std.proofs.Common.{◌≡◌, refl, sym, ap, ◌∙◌}
use Rattle.std.specs.Ordering.{ordering_then, eq_by_cmp}
use Rattle.std.specs.declared.cmp.Ordering.{Ordering}
use Rattle.std.specs.declared.cmp.Ordering.TheVariants.{Less, Equal, Greater}
use Rattle.std.specs.Cmp.{IsTotalOrder, both_tied}
use Rattle.std.specs.Cmp.Lexicographic.{texts_ties}
use Rattle.std.proofs.lemmas.Cmp.{nat_list_cmp_total, on_total, then_total}
use Rattle.std.specs.FinMap.{IsAntisymmetric, nat_cmp-IsAntisymmetric, slice_cmp-IsAntisymmetric}
use Rattle.std.specs.FinSet.{from_list}
use Rattle.flow_labels.specs.Tags.{tags_of}
use Rattle.flow_labels.proofs.TagLemmas.{from_list-tags_of}
use Rattle.flow_labels.specs.declared.Label.{Label}
use Rattle.lam_value_homes.specs.Labels.{tags_cmp, label_cmp}
use Rattle.lam_value_homes.specs.Homes.{Home, home_cmp, label_eq, home_eq}

pub then_parts : (a b : Ordering) → ordering_then a b ≡ Equal → (a ≡ Equal) × (b ≡ Equal)
then_parts Less b e = cc
then_parts Equal b e = (refl, e)
then_parts Greater b e = cc

tags_exact : IsAntisymmetric tags_cmp
tags_exact s t e = sym (from_list-tags_of s) ∙ ap from_list (slice_cmp-IsAntisymmetric nat_cmp-IsAntisymmetric (tags_of s) (tags_of t) e) ∙ from_list-tags_of t

-- ---- what ties is equal
pub label_exact : IsAntisymmetric label_cmp
label_exact x y e =
    let p = then_parts (tags_cmp x.s y.s) (tags_cmp x.i y.i) e in
    let a = tags_exact x.s y.s p.0 in
    let b = tags_exact x.i y.i p.1 in
    λ j. record { s = a j; i = b j }

pub home_exact : IsAntisymmetric home_cmp
home_exact x y e =
    let p = then_parts (label_cmp x.maker y.maker) (label_cmp x.own y.own) e in
    let a = label_exact x.maker y.maker p.0 in
    let b = label_exact x.own y.own p.1 in
    λ j. record { maker = a j; own = b j }

-- ---- the orders are total
pub label_total : IsTotalOrder label_cmp
label_total = then_total (on_total (λ (l : Label). tags_of l.s) nat_list_cmp_total) (on_total (λ (l : Label). tags_of l.i) nat_list_cmp_total)

pub home_total : IsTotalOrder home_cmp
home_total = then_total (on_total (λ (h : Home). h.maker) label_total) (on_total (λ (h : Home). h.own) label_total)

-- ---- `==` is true exactly where the order ties
pub label_ties : (a b : Label) → label_eq a b ≡ eq_by_cmp label_cmp a b
label_ties a b = both_tied _ _ (tags_cmp a.s b.s) (tags_cmp a.i b.i) (texts_ties (tags_of a.s) (tags_of b.s)) (texts_ties (tags_of a.i) (tags_of b.i))

pub home_ties : (a b : Home) → home_eq a b ≡ eq_by_cmp home_cmp a b
home_ties a b = both_tied _ _ (label_cmp a.maker b.maker) (label_cmp a.own b.own) (label_ties a.maker b.maker) (label_ties a.own b.own)
