use Rattle.lam_main_laws.proofs.CallLemmas.{broken_off}
use Rattle.lam_main_laws.proofs.runs.broken_runs_are_recorded.Goals as goal

pub returns : goal.returns
returns c = broken_off c.runs_are_isolated.ensures.isolated c.worlds_stay_well_labelled.ensures.valid c.texts_start.ensures
