use Rattle.std.proofs.Common.{◌≡◌, take}
use Rattle.std.specs.Prelude.{IsTrue, ◌↔◌}
use Rattle.tag_sets.proofs.rising.all_equal.Given as goal

abbrev pub invariant-loop-at : goal.invariant-loop-at
invariant-loop-at l = IsTrue l.same ↔ (take l.at l.tags ≡ take l.at l.others)
