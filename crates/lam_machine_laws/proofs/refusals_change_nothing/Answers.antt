use Rattle.lam_machine_laws.proofs.RefusalLemmas.{change_nothing}
use Rattle.lam_machine_laws.proofs.refusals_change_nothing.Goals as goal

pub returns : goal.returns
returns c = change_nothing
