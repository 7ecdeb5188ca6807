use Rattle.lam_syntax.proofs.Lists.{same_lengths}
use Rattle.lam_syntax.proofs.Views.{unplaced_caps-list}
use Rattle.lam_sameness.proofs.same_caps.Goals as goal

pub returns-then-a-b : goal.returns-then-a-b
returns-then-a-b c = same_lengths unplaced_caps-list _ _ c.if-a-b.true
