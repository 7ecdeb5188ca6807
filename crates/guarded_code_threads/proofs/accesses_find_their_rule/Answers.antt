use Rattle.guarded_code_threads.proofs.Accessing.{accesses_find, no_second_test}
use Rattle.guarded_code_threads.proofs.accesses_find_their_rule.Goals as goal

pub returns : goal.returns
returns c = record { finds = accesses_find; tests = no_second_test }
