use Rattle.lam_machine_laws.proofs.RefusalLemmas.{name_the_first}
use Rattle.lam_machine_laws.proofs.refusals_name_the_first.Goals as goal

pub returns : goal.returns
returns c = name_the_first
