use Rattle.source_walk_parts.proofs.Steps.{if_ok}
use Rattle.source_walk_go.proofs.ValueFrames.{to_operator}
use Rattle.source_walk_go.proofs.values.to_operator.Goals as goal

pub returns : goal.returns
returns c = if_ok c.operated.result _ _ c.operated.ensures (λ d e s r. to_operator r s c.args.v.now c.args.op c.args.left.now d e)
