use Rattle.lam_meaning_laws.proofs.Acting.{code_acts}
use Rattle.lam_meaning_laws.proofs.compiled_code_acts_as_its_source.Goals as goal

pub returns : goal.returns
returns c = code_acts
