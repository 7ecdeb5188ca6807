use Rattle.lam_machine_laws.proofs.TurnLemmas.{step_safe, valid_safe}
use Rattle.lam_machine_laws.proofs.worlds_stay_well_labelled.Goals as goal

pub returns : goal.returns
returns c = record { valid = valid_safe; turns = step_safe }
