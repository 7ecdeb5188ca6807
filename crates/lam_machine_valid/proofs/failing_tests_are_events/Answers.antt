use Rattle.lam_machine_valid.proofs.EventLemmas.{failing_events}
use Rattle.lam_machine_valid.proofs.failing_tests_are_events.Goals as goal

pub returns : goal.returns
returns c = failing_events
