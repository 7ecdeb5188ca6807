use Rattle.std.proofs.Common.{◌≡◌, true, false, Some, refl, sym, ap, ◌∙◌, subst}
use Rattle.std.specs.Prelude.{nat_le}
use Rattle.tag_sets.proofs.WalkLemmas.{find-found, find-passed, find-none}
use Rattle.world_save_rows.proofs.Leasts.{le_true, above}
use Rattle.world_save_rows.proofs.unnamed.find_from.Goals as goal

pub loop-tag-init : goal.loop-tag-init
loop-tag-init c = refl

pub loop-tag-preserved : goal.loop-tag-preserved
loop-tag-preserved c =
    c.loop-tag.invariant ∙ find-passed (nat_le c.args.count) c.args.tags.now _ _ c.loop-tag-test.true c.tag-item.is (subst (λ n. nat_le c.args.count n ≡ false) c.tag.view_is (above _ _ c.if-count-tag.false))

pub returns-then-count-tag : goal.returns-then-count-tag
returns-then-count-tag c =
    ap Some c.tag.view_is
    ∙ sym (c.loop-tag.invariant ∙ find-found (nat_le c.args.count) c.args.tags.now _ _ c.loop-tag-test.true c.tag-item.is (subst (λ n. nat_le c.args.count n ≡ true) c.tag.view_is (le_true _ _ c.if-count-tag.true)))

pub returns : goal.returns
returns c = sym (c.loop-tag.invariant ∙ find-none (nat_le c.args.count) c.args.tags.now _ c.loop-tag-test.false)
