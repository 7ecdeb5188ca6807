use Rattle.lam_main_laws.proofs.ToldLemmas.{releases_told}
use Rattle.lam_main_laws.proofs.audits.releases_are_told.Goals as goal

pub returns : goal.returns
returns c = releases_told
