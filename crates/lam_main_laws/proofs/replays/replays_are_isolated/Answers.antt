use Rattle.lam_main_laws.proofs.ReplayLemmas.{isolated}
use Rattle.lam_main_laws.proofs.replays.replays_are_isolated.Goals as goal

pub returns : goal.returns
returns c = isolated c.runs_are_isolated.ensures.isolated c.worlds_stay_well_labelled.ensures.valid c.runs_stop.ensures c.texts_start.ensures
