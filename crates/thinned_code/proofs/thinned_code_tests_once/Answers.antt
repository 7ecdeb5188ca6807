use Rattle.thinned_code.proofs.Once.{thinned_once}
use Rattle.thinned_code.proofs.thinned_code_tests_once.Goals as goal

pub returns : goal.returns
returns c = thinned_once
