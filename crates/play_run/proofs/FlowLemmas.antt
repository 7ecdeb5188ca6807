-- flows of labels, and what a test that nothing fails says of them
use Rattle.std.proofs.Common.{◌≡◌, ℕ, true, Option, None, refl}
use Rattle.std.proofs.lemmas.Bool.{and_from, and_parts}
use Rattle.std.specs.Cmp.{nat_cmp_total}
use Rattle.std.specs.FinSet.{difference, is_subset, is_subset-contains, contains-is_subset}
use Rattle.flow_labels.specs.Tags.{Tags, least}
use Rattle.flow_labels.proofs.TagLemmas.{none-is_subset}
use Rattle.flow_labels.specs.declared.Label.{Label}
use Rattle.flow_labels.specs.declared.Rule.{Rule}
use Rattle.flow_labels.specs.declared.Rule.TheVariants.{ReadS, ReadI, WriteS, WriteI}
use Rattle.flow_labels.specs.declared.Denied.{Denied}
use Rattle.flow_labels.specs.Flow.{flows}
use Rattle.flow_labels.specs.Failing.{denied_or, first_failing, read_test, write_test}
use Rattle.capabilities.specs.declared.Caps.{Caps}
use Rattle.play_script.specs.declared.Actor.{Actor}
use Rattle.play_run.specs.Steps.{copy_test}

is_subset-trans : (a b c : Tags) → is_subset a b ≡ true → is_subset b c ≡ true → is_subset a c ≡ true
is_subset-trans a b c e f = contains-is_subset nat_cmp_total a c (λ q h. is_subset-contains nat_cmp_total b c f q (is_subset-contains nat_cmp_total a b e q h))

pub flows-trans : (x y z : Label) → flows x y ≡ true → flows y z ≡ true → flows x z ≡ true
flows-trans x y z e f =
    let first = and_parts (is_subset x.s y.s) (is_subset y.i x.i) e in
    let second = and_parts (is_subset y.s z.s) (is_subset z.i y.i) f in
    and_from _ _ (is_subset-trans x.s y.s z.s first.0 second.0) (is_subset-trans z.i y.i x.i second.1 first.1)

-- the two rules that come first are not broken
two_hold : (first second : Option ℕ) (r r' : Rule) (rest : Option Denied) → denied_or r first (denied_or r' second rest) ≡ None → (first ≡ None) × (second ≡ None)
two_hold None None r r' rest e = (refl, refl)
two_hold first second r r' rest e = absurd cc

pub read-flows : (p x : Label) → first_failing (read_test p x) ≡ None → flows x p ≡ true
read-flows p x e =
    let none = two_hold (least (difference x.s p.s)) (least (difference p.i x.i)) ReadS ReadI None e in
    and_from _ _ (none-is_subset x.s p.s none.0) (none-is_subset p.i x.i none.1)

pub write-flows : (p x : Label) → first_failing (write_test p x) ≡ None → flows p x ≡ true
write-flows p x e =
    let none = two_hold (least (difference p.s x.s)) (least (difference x.i p.i)) WriteS WriteI None e in
    and_from _ _ (none-is_subset p.s x.s none.0) (none-is_subset x.i p.i none.1)

pub copy-flows : (public : Caps) (p : Actor) (c d : Label) → first_failing (copy_test public p c d) ≡ None → flows c p.label ≡ true
copy-flows public p c d e =
    let none = two_hold (least (difference c.s p.label.s)) (least (difference p.label.i c.i)) ReadS ReadI _ e in
    and_from _ _ (none-is_subset c.s p.label.s none.0) (none-is_subset p.label.i c.i none.1)
