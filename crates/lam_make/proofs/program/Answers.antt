use Rattle.lam_make.specs.Made.{program_text}
use Rattle.lam_make.proofs.program.Goals as goal

pub returns : goal.returns
unfolding program_text
returns c = c.in_ok-from_str.ensures.ok
