use Rattle.play_script.proofs.BackLemmas.{lines_are_exact}
use Rattle.play_script.proofs.lines_are_exact.Goals as goal

pub returns : goal.returns
returns c = lines_are_exact
