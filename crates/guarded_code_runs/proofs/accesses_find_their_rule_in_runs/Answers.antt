use Rattle.guarded_code_runs.proofs.Keeping.{accesses_find_in_runs, no_second_test_in_runs}
use Rattle.guarded_code_runs.proofs.accesses_find_their_rule_in_runs.Goals as goal

pub returns : goal.returns
returns c = record { finds = accesses_find_in_runs; tests = no_second_test_in_runs }
