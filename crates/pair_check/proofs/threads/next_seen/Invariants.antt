use Rattle.std.proofs.Common.{◌≡◌, drop}
use Rattle.std.specs.Prelude.{filter}
use Rattle.lam_machine_terms.specs.Views.{is_seen}
use Rattle.pair_check.proofs.threads.next_seen.Given as goal

abbrev pub invariant-loop-at : goal.invariant-loop-at
invariant-loop-at l = filter (is_seen l.observer) (drop l.from l.list) ≡ filter (is_seen l.observer) (drop l.at l.list)
