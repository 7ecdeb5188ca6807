use Rattle.play_run.proofs.LawLemmas.{releases_allowed}
use Rattle.play_run.proofs.releases_are_allowed.Goals as goal

pub returns : goal.returns
returns c = releases_allowed
