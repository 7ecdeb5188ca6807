use Rattle.std.proofs.Common.{not, ap, sym, ◌∙◌, refl}
use Rattle.tag_sets.proofs.WalkLemmas.{walk-start, walk-next, walk-has, find-found, find-passed, find-none}
use Rattle.tag_sets.proofs.rising.walk_to_missing.Goals as goal

pub loop-tag-init : goal.loop-tag-init
loop-tag-init c = record { walk = walk-start _ _ c.requires.tags c.requires.others; none_yet = refl }

pub loop-tag-preserved : goal.loop-tag-preserved
loop-tag-preserved c =
    let there = walk-has _ _ _ _ _ _ _ c.loop-tag-test.true c.tag-item.is c.loop-tag.invariant.walk c.from_tag-rest.ensures (sym c.if-not-begins_with.false ∙ c.begins_with.ensures) in
    record {
      walk = walk-next _ _ _ _ _ _ c.loop-tag-test.true c.tag-item.is c.loop-tag.invariant.walk c.from_tag-rest.ensures;
      none_yet = c.loop-tag.invariant.none_yet ∙ find-passed _ _ _ _ c.loop-tag-test.true c.tag-item.is (ap not there);
    }

pub returns-then-not-begins_with : goal.returns-then-not-begins_with
returns-then-not-begins_with c =
    let absent = walk-has _ _ _ _ _ _ _ c.loop-tag-test.true c.tag-item.is c.loop-tag.invariant.walk c.from_tag-rest.ensures (sym c.if-not-begins_with.true ∙ c.begins_with.ensures) in
    sym (c.loop-tag.invariant.none_yet ∙ find-found _ _ _ _ c.loop-tag-test.true c.tag-item.is (ap not absent))

pub returns : goal.returns
returns c = sym (c.loop-tag.invariant.none_yet ∙ find-none _ _ _ c.loop-tag-test.false)
