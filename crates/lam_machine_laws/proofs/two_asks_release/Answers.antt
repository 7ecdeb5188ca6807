use Rattle.lam_machine_laws.proofs.DownLemmas.{two_release}
use Rattle.lam_machine_laws.proofs.two_asks_release.Goals as goal

pub returns : goal.returns
returns c = two_release
