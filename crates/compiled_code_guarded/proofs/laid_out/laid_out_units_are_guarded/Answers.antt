use Rattle.compiled_code_guarded.proofs.LaidOut.{laid_out}
use Rattle.compiled_code_guarded.proofs.laid_out.laid_out_units_are_guarded.Goals as goal

pub returns : goal.returns
returns c = laid_out
