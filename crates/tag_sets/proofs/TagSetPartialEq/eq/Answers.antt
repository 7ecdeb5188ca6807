use Rattle.std.specs.Bool.{one_answer}
use Rattle.tag_sets.proofs.TagLemmas.{same_tags-Decides}
use Rattle.tag_sets.proofs.TagSetPartialEq.eq.Goals as goal

pub returns : goal.returns
returns c = one_answer _ _ c.same.ensures (same_tags-Decides _ _)
