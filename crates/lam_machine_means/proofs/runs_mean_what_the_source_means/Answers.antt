use Rattle.lam_machine_means.proofs.Meaning.{runs_mean}
use Rattle.lam_machine_means.proofs.runs_mean_what_the_source_means.Goals as goal

pub returns : goal.returns
returns c = runs_mean
