use Rattle.std.proofs.Common.{◌-◌, length}
use Rattle.closed_terms.specs.Ends.{most_turns}
use Rattle.closed_run.specs.Places.{Fits}
use Rattle.closed_run.proofs.EndLemmas.{IsSoFar}
use Rattle.closed_run.proofs.ends.to_end.Given as goal

abbrev pub invariant-turns : goal.invariant-turns
invariant-turns g l = Fits l.budget (length l.turns.items) l.place × IsSoFar (g.K.Keeps.AreKept l.who) l.base l.code l.budget l.initial.world l.turns.items l.world l.place l.kept

abbrev pub decreases-turns : goal.decreases-turns
decreases-turns g l = most_turns - length l.turns.items
