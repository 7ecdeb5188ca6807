use Rattle.source_walk_parts.proofs.Steps.{if_ok}
use Rattle.source_walk_go.proofs.ValueFrames.{to_prefix}
use Rattle.source_walk_go.proofs.values.to_prefix.Goals as goal

pub returns : goal.returns
returns c = if_ok c.prefixed.result _ _ c.prefixed.ensures (λ d e s r. to_prefix r s c.args.v.now c.args.op d e)
