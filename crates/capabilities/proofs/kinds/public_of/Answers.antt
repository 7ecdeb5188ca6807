use Rattle.std.proofs.Common.{◌∙◌, ap}
use Rattle.std.specs.FinSet.{from_list}
use Rattle.capabilities.specs.Kinds.{adds_freely, drops_freely, public_of}
use Rattle.capabilities.proofs.KindLemmas.{places-all}
use Rattle.capabilities.proofs.kinds.public_of.Goals as goal

pub returns : goal.returns
unfolding public_of
returns c =
    let here = c.loop-kind.invariant in
    let plus = places-all adds_freely _ _ _ _ c.loop-kind-test.false here.plus_so_far in
    let minus = places-all drops_freely _ _ _ _ c.loop-kind-test.false here.minus_so_far in
    (λ i. record {
      plus = (c.in_ok-plus.ensures ∙ ap from_list (c.as_slice.ensures.value ∙ plus)) i;
      minus = (c.in_ok-minus.ensures ∙ ap from_list (c.as_slice-2.ensures.value ∙ minus)) i;
    })
