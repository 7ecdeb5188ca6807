use Rattle.lam_machine_valid.proofs.ReadyLemmas.{one_way}
use Rattle.lam_machine_valid.proofs.worlds_stand_one_way.Goals as goal

pub returns : goal.returns
returns c = one_way
