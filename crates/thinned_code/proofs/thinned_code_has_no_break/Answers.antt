use Rattle.thinned_code.proofs.Thinned.{stays_guarded}
use Rattle.thinned_code.proofs.thinned_code_has_no_break.Goals as goal

pub returns : goal.returns
returns c = stays_guarded
