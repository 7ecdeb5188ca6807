-- Flows go on, and what a test that nothing fails says of labels.
use Rattle.std.proofs.Common.{◌≡◌, ℕ, Bool, true, false, [], ◌∷◌, ◌++◌, Option, Some, None, refl, sym, ap, ◌∙◌}
use Rattle.std.specs.Prelude.{◌&&◌, ◌||◌, not}
use Rattle.std.proofs.Math.Bool.{true≢false}
use Rattle.std.specs.Cmp.{nat_cmp_total}
use Rattle.std.specs.FinSet.{contains, difference, is_subset, is_subset-contains, contains-is_subset, contains-difference, contains-union}
use Rattle.flow_labels.specs.Tags.{Tags, least, apart}
use Rattle.flow_labels.proofs.TagLemmas.{same_tags, least-none, none-is_subset, empty-least, subset_itself}
use Rattle.flow_labels.specs.declared.Label.{Label}
use Rattle.flow_labels.specs.declared.Rule.{Rule}
use Rattle.flow_labels.specs.declared.Denied.{Denied}
use Rattle.flow_labels.specs.Flow.{flows, public_label}
use Rattle.flow_labels.specs.Failing.{Test, denied_or, first_failing, read_test, write_test, mint_test, same_test}

pub both_true : (a b : Bool) → (a && b) ≡ true → (a ≡ true) × (b ≡ true)
both_true true b e = (refl, e)
both_true false b e = absurd cc

pub and_true : (a b : Bool) → a ≡ true → b ≡ true → (a && b) ≡ true
and_true true b e f = f
and_true false b e f = e

subset_trans : (a b c : Tags) → is_subset a b ≡ true → is_subset b c ≡ true → is_subset a c ≡ true
subset_trans a b c e f = contains-is_subset nat_cmp_total a c (λ q h. is_subset-contains nat_cmp_total b c f q (is_subset-contains nat_cmp_total a b e q h))

pub flows_refl : (x : Label) → flows x x ≡ true
flows_refl x = and_true _ _ (subset_itself x.s) (subset_itself x.i)

pub flows_trans : (x y z : Label) → flows x y ≡ true → flows y z ≡ true → flows x z ≡ true
flows_trans x y z e f =
    let a = both_true (is_subset x.s y.s) (is_subset y.i x.i) e in
    let b = both_true (is_subset y.s z.s) (is_subset z.i y.i) f in
    and_true _ _ (subset_trans x.s y.s z.s a.0 b.0) (subset_trans z.i y.i x.i b.1 a.1)

-- what is above something unseen is unseen
pub hidden_up : (p x o : Label) → flows p x ≡ true → flows p o ≡ false → flows x o ≡ false
hidden_up p x o up hid = go (flows x o) refl
  where
    go : (b : Bool) → flows x o ≡ b → flows x o ≡ false
    go true e = absurd (true≢false (sym (flows_trans p x o up e) ∙ hid))
    go false e = e

pub not_both : {X : Type 0} (b : Bool) → b ≡ false → b ≡ true → X
not_both b h s = absurd (true≢false (sym s ∙ h))

-- ---- tests

denied_none : (r : Rule) (t : Option ℕ) (rest : Option Denied) → denied_or r t rest ≡ None → (t ≡ None) × (rest ≡ None)
denied_none r None rest e = (refl, e)
denied_none r (Some t) rest e = absurd cc

-- of joined tests each passes
pub each_passes : (t u : Test) → first_failing (t ++ u) ≡ None → (first_failing t ≡ None) × (first_failing u ≡ None)
each_passes [] u e = (refl, e)
each_passes (p ∷ t) u e =
    let a = denied_none p.0 (least p.1) (first_failing (t ++ u)) e in
    let b = each_passes t u a.1 in
    (ap (λ x. denied_or p.0 x (first_failing t)) a.0 ∙ b.0, b.1)

-- neither of two rules is broken
two_pass : (r r' : Rule) (s s' : Tags) → first_failing ((r, s) ∷ (r', s') ∷ []) ≡ None → (least s ≡ None) × (least s' ≡ None)
two_pass r r' s s' e =
    let a = denied_none r (least s) (denied_or r' (least s') None) e in
    (a.0, (denied_none r' (least s') None a.1).0)

pub read_passes : (p x : Label) → first_failing (read_test p x) ≡ None → flows x p ≡ true
read_passes p x e =
    let a = two_pass _ _ (difference x.s p.s) (difference p.i x.i) e in
    and_true _ _ (none-is_subset x.s p.s a.0) (none-is_subset p.i x.i a.1)

pub write_passes : (p x : Label) → first_failing (write_test p x) ≡ None → flows p x ≡ true
write_passes p x e =
    let a = two_pass _ _ (difference p.s x.s) (difference x.i p.i) e in
    and_true _ _ (none-is_subset p.s x.s a.0) (none-is_subset x.i p.i a.1)

neither : (a b : Bool) → (a || b) ≡ false → (a ≡ false) × (b ≡ false)
neither true b e = absurd cc
neither false b e = (refl, e)

alike : (a b : Bool) → (a && not b) ≡ false → (b && not a) ≡ false → a ≡ b
alike true true e f = refl
alike true false e f = absurd cc
alike false true e f = absurd cc
alike false false e f = refl

not_apart : (s t : Tags) → least (apart s t) ≡ None → s ≡ t
not_apart s t e =
    same_tags s t (λ q.
    let h = neither (contains (difference s t) q) (contains (difference t s) q) (sym (contains-union nat_cmp_total (difference s t) (difference t s) q) ∙ least-none (apart s t) e q) in
    alike (contains s q) (contains t q) (sym (contains-difference nat_cmp_total s t q) ∙ h.0) (sym (contains-difference nat_cmp_total t s q) ∙ h.1))

pub same_passes : (p x : Label) → first_failing (same_test p x) ≡ None → x ≡ p
same_passes p x e =
    let a = two_pass _ _ (apart p.s x.s) (apart p.i x.i) e in
    let s = not_apart p.s x.s a.0 in
    let i = not_apart p.i x.i a.1 in
    λ j. record { s = sym s j; i = sym i j }

pub mint_passes : (p : Label) → first_failing (mint_test p) ≡ None → p ≡ public_label
mint_passes p e =
    let a = two_pass _ _ p.s p.i e in
    let s = empty-least p.s a.0 in
    let i = empty-least p.i a.1 in
    λ j. record { s = s j; i = i j }
