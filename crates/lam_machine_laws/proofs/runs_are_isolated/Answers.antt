use Rattle.lam_machine_laws.proofs.WholeLemmas.{isolated, steady}
use Rattle.lam_machine_laws.proofs.runs_are_isolated.Goals as goal

pub returns : goal.returns
returns c = record { isolated = isolated; steady = steady }
