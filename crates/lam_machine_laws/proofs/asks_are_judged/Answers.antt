use Rattle.lam_machine_laws.proofs.JudgedLemmas.{are_judged}
use Rattle.lam_machine_laws.proofs.asks_are_judged.Goals as goal

pub returns : goal.returns
returns c = are_judged
