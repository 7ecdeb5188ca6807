use Rattle.play_script.proofs.BackLemmas.{breaks_are_exact}
use Rattle.play_script.proofs.breaks_are_exact.Goals as goal

pub returns : goal.returns
returns c = breaks_are_exact
