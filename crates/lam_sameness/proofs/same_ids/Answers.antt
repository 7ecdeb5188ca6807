use Rattle.lam_syntax.proofs.Lists.{same_lengths}
use Rattle.lam_syntax.proofs.Views.{unplaced_ids-list}
use Rattle.lam_sameness.proofs.same_ids.Goals as goal

pub returns-then-a-b : goal.returns-then-a-b
returns-then-a-b c = same_lengths unplaced_ids-list _ _ c.if-a-b.true
