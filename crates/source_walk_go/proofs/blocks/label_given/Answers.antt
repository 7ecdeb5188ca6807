use Rattle.source_walk_parts.proofs.Steps.{if_ok}
use Rattle.source_walk_parts.specs.States.{state_of}
use Rattle.source_walk_go.proofs.BlockFrames.{label_goes}
use Rattle.source_walk_go.proofs.blocks.label_given.Goals as goal

pub returns : goal.returns
returns c = if_ok c.wait.result _ _ c.wait.ensures (λ d w r. label_goes r (state_of c.args.w.now) c.args.depth c.args.region c.args.label c.args.caps w)
