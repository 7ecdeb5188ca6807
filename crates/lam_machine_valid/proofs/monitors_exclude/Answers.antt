use Rattle.lam_machine_valid.proofs.StartLemmas.{exclude}
use Rattle.lam_machine_valid.proofs.monitors_exclude.Goals as goal

pub returns : goal.returns
returns c = exclude
