use Rattle.std.proofs.Common.{◌≡◌, ◌&&◌, not, find, drop}
use Rattle.tag_sets.specs.Rising.{has}
use Rattle.tag_sets.proofs.WalkLemmas.{Walk}
use Rattle.tag_sets.proofs.rising.find_missing_three.Given as goal

abbrev pub invariant-loop-tag : goal.invariant-loop-tag
invariant-loop-tag l = record {
  walk_first : Walk l.tags l.tag-index l.rest_first l.first;
  walk_second : Walk l.tags l.tag-index l.rest_second l.second;
  walk_third : Walk l.tags l.tag-index l.rest_third l.third;
  none_yet : find (λ t. not (has l.first t) && (not (has l.second t) && not (has l.third t))) l.tags ≡ find (λ t. not (has l.first t) && (not (has l.second t) && not (has l.third t))) (drop l.tag-index l.tags);
}
