use Rattle.source_walk_follow.proofs.Compared.{zeros_done}
use Rattle.source_walk_follow.proofs.compares.zeros.Goals as goal

pub returns : goal.returns
returns c = zeros_done c.args.types.now c.loop-ty.ty-index c.loop-ty.all c.loop-ty-test.false c.loop-ty.invariant
