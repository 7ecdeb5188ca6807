use Rattle.lam_machine_replay.proofs.PublicLemmas.{public_in_runs}
use Rattle.lam_machine_replay.proofs.public_stay_in_runs.Goals as goal

pub returns : goal.returns
returns c = λ code. public_in_runs code (c.public_stay.ensures code)
