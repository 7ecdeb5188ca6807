use Rattle.play_run.proofs.RunLemmas.{isolated}
use Rattle.play_run.proofs.scripts_are_isolated.Goals as goal

pub returns : goal.returns
returns c = isolated
