use Rattle.std.proofs.Common.{◌≡◌, Bool, true, false, not, ◌&&◌, refl, sym, ap, ◌∙◌}
use Rattle.tag_sets.specs.Rising.{has}
use Rattle.tag_sets.proofs.WalkLemmas.{walk-start, walk-next, walk-has, find-found, find-passed, find-none}
use Rattle.tag_sets.proofs.rising.find_missing_three.Goals as goal
use Rattle.tag_sets.proofs.rising.find_missing_three.Goals.{else-not-begins_with-via-then-not-begins_with+then-not-begins_with-2+else-not-begins_with-3, else-not-begins_with-via-then-not-begins_with+else-not-begins_with-2, else-not-begins_with-via-else-not-begins_with}

in_second : (a b c : Bool) → b ≡ true → (not a && (not b && not c)) ≡ false
in_second true b c e = refl
in_second false b c e = ap (λ x. not x && not c) e

in_third : (a b c : Bool) → c ≡ true → (not a && (not b && not c)) ≡ false
in_third true b c e = refl
in_third false true c e = refl
in_third false false c e = ap not e

pub loop-tag-init : goal.loop-tag-init
loop-tag-init c = record { walk_first = walk-start _ _ c.requires.tags c.requires.first; walk_second = walk-start _ _ c.requires.tags c.requires.second; walk_third = walk-start _ _ c.requires.tags c.requires.third; none_yet = refl }

pub loop-tag-preserved : goal.loop-tag-preserved
loop-tag-preserved c =
    let here = c.loop-tag.invariant in
    record {
      walk_first = walk-next _ _ _ _ _ _ c.loop-tag-test.true c.tag-item.is here.walk_first c.from_tag-rest_first.ensures;
      walk_second = walk-next _ _ _ _ _ _ c.loop-tag-test.true c.tag-item.is here.walk_second c.from_tag-rest_second.ensures;
      walk_third = walk-next _ _ _ _ _ _ c.loop-tag-test.true c.tag-item.is here.walk_third c.from_tag-rest_third.ensures;
      none_yet = here.none_yet ∙ find-passed _ _ _ _ c.loop-tag-test.true c.tag-item.is (elim c.else-not-begins_with.branch [
        | else-not-begins_with-via-then-not-begins_with+then-not-begins_with-2+else-not-begins_with-3 w ↦
            in_third _ _ _ (walk-has _ _ _ _ _ _ _ c.loop-tag-test.true c.tag-item.is here.walk_third c.from_tag-rest_third.ensures (sym w.if-not-begins_with-3.false ∙ w.begins_with-then-not-begins_with-2.ensures))
        | else-not-begins_with-via-then-not-begins_with+else-not-begins_with-2 w ↦
            in_second _ _ _ (walk-has _ _ _ _ _ _ _ c.loop-tag-test.true c.tag-item.is here.walk_second c.from_tag-rest_second.ensures (sym w.if-not-begins_with-2.false ∙ w.begins_with-then-not-begins_with.ensures))
        | else-not-begins_with-via-else-not-begins_with w ↦
            ap (λ b. not b && (not (has c.args.second.now c.tag-item.result) && not (has c.args.third.now c.tag-item.result))) (walk-has _ _ _ _ _ _ _ c.loop-tag-test.true c.tag-item.is here.walk_first c.from_tag-rest_first.ensures (sym w.if-not-begins_with.false ∙ c.begins_with.ensures))
      ]);
    }

pub returns-then-not-begins_with-3 : goal.returns-then-not-begins_with-3
returns-then-not-begins_with-3 c =
    let here = c.loop-tag.invariant in
    let absent_first = walk-has _ _ _ _ _ _ _ c.loop-tag-test.true c.tag-item.is here.walk_first c.from_tag-rest_first.ensures (sym c.if-not-begins_with.true ∙ c.begins_with.ensures) in
    let absent_second = walk-has _ _ _ _ _ _ _ c.loop-tag-test.true c.tag-item.is here.walk_second c.from_tag-rest_second.ensures (sym c.if-not-begins_with-2.true ∙ c.begins_with-then-not-begins_with.ensures) in
    let absent_third = walk-has _ _ _ _ _ _ _ c.loop-tag-test.true c.tag-item.is here.walk_third c.from_tag-rest_third.ensures (sym c.if-not-begins_with-3.true ∙ c.begins_with-then-not-begins_with-2.ensures) in
    sym (here.none_yet ∙ find-found _ _ _ _ c.loop-tag-test.true c.tag-item.is (λ i. not (absent_first i) && (not (absent_second i) && not (absent_third i))))

pub returns : goal.returns
returns c = sym (c.loop-tag.invariant.none_yet ∙ find-none _ _ _ c.loop-tag-test.false)
