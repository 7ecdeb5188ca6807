use Rattle.lam_machine_laws.proofs.FaultLemmas.{faults_handled}
use Rattle.lam_machine_laws.proofs.faults_are_handled.Goals as goal

pub returns : goal.returns
returns c = faults_handled
