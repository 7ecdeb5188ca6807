use Rattle.play_run.proofs.LawLemmas.{notes_exact}
use Rattle.play_run.proofs.notes_are_exact.Goals as goal

pub returns : goal.returns
returns c = notes_exact
