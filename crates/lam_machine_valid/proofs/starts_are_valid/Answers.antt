use Rattle.lam_machine_valid.proofs.StartLemmas.{valid_starts}
use Rattle.lam_machine_valid.proofs.starts_are_valid.Goals as goal

pub returns : goal.returns
returns c = valid_starts
