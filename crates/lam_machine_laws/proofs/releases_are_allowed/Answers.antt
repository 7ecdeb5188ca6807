use Rattle.lam_machine_laws.proofs.AllowedLemmas.{releases_allowed}
use Rattle.lam_machine_laws.proofs.releases_are_allowed.Goals as goal

pub returns : goal.returns
returns c = releases_allowed
