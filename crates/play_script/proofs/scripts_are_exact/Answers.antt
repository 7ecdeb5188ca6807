use Rattle.play_script.proofs.BackLemmas.{scripts_are_exact}
use Rattle.play_script.proofs.scripts_are_exact.Goals as goal

pub returns : goal.returns
returns c = scripts_are_exact
