use Rattle.lam_machine_means.proofs.ServedLemmas.{typed_turns}
use Rattle.lam_machine_means.proofs.turns_are_typed.Goals as goal

pub returns : goal.returns
returns c = typed_turns
