use Rattle.lam_front.proofs.Found.{found_spelt, found_misspelt}
use Rattle.lam_front.proofs.layers.read_program.Goals as goal

pub returns-clause-spelt : goal.returns-clause-spelt
returns-clause-spelt c = found_spelt c.args.bytes.now c.read_text.result c.read_text.ensures

pub returns-clause-misspelt : goal.returns-clause-misspelt
returns-clause-misspelt c = found_misspelt c.args.bytes.now c.read_text.result c.read_text.ensures
