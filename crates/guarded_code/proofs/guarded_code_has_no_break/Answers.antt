use Rattle.guarded_code.proofs.Breaking.{guarded_means}
use Rattle.guarded_code.proofs.guarded_code_has_no_break.Goals as goal

pub returns : goal.returns
returns c = guarded_means
