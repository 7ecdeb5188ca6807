use Rattle.lam_front.proofs.Found.{found_fine, found_broken}
use Rattle.lam_front.proofs.layers.check_program.Goals as goal

pub returns-clause-fine : goal.returns-clause-fine
returns-clause-fine c = found_fine c.args.bytes.now c.check_text.result c.check_text.ensures

pub returns-clause-broken : goal.returns-clause-broken
returns-clause-broken c = found_broken c.args.bytes.now c.check_text.result c.check_text.ensures
