use Rattle.lam_meaning_laws.proofs.Acting.{code_never_stuck}
use Rattle.lam_meaning_laws.proofs.compiled_code_is_never_stuck.Goals as goal

pub returns : goal.returns
returns c = code_never_stuck
