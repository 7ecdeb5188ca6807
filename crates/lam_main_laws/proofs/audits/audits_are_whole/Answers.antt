use Rattle.lam_main_laws.proofs.WholeLemmas.{audits_whole}
use Rattle.lam_main_laws.proofs.audits.audits_are_whole.Goals as goal

pub returns : goal.returns
returns c = audits_whole
