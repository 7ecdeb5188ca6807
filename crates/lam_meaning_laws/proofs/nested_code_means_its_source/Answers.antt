use Rattle.lam_meaning_laws.proofs.Threads.{nested_means}
use Rattle.lam_meaning_laws.proofs.nested_code_means_its_source.Goals as goal

pub returns : goal.returns
returns c = nested_means
