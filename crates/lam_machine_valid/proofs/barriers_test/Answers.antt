use Rattle.lam_machine_valid.proofs.NextLemmas.{test_barriers}
use Rattle.lam_machine_valid.proofs.barriers_test.Goals as goal

pub returns : goal.returns
returns c = test_barriers
