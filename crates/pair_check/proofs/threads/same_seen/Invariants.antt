use Rattle.lam_machine_terms.specs.Views.{is_seen}
use Rattle.pair_check.proofs.WalkLemmas.{Left}
use Rattle.pair_check.proofs.threads.same_seen.Given as goal

abbrev pub invariant-loop-context : goal.invariant-loop-context
invariant-loop-context l = Left (is_seen l.observer) l.a l.b l.context-index l.next
