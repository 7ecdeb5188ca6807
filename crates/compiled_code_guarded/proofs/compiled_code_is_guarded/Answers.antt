use Rattle.compiled_code_guarded.proofs.Units.{scheme_guarded, compiled_guarded}
use Rattle.compiled_code_guarded.proofs.compiled_code_is_guarded.Goals as goal

pub returns : goal.returns
returns c = record { scheme = scheme_guarded; compiled = compiled_guarded }
