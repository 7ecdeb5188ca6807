use Rattle.lam_machine_valid.proofs.FormLemmas.{are_threads}
use Rattle.lam_machine_valid.proofs.valid_threads_are_threads.Goals as goal

pub returns : goal.returns
returns c = are_threads
