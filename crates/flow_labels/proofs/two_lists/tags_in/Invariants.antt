use Rattle.std.proofs.Common.{◌≤◌}
use Rattle.flow_labels.proofs.WordLemmas.{SoFar}
use Rattle.flow_labels.proofs.two_lists.tags_in.Given as goal

abbrev pub invariant-loop-at : goal.invariant-loop-at
invariant-loop-at l = record { before : l.start ≤ l.at; so_far : SoFar l.names l.text l.from l.tags.items l.start l.at }
