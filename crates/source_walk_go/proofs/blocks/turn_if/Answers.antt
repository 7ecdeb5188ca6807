use Rattle.std.proofs.Common.{ap}
use Rattle.lam_value.specs.declared.values.Value.TheVariants.{Bool}
use Rattle.source_walk_parts.proofs.Steps.{if_ok}
use Rattle.source_walk_parts.specs.States.{state_of}
use Rattle.source_walk_go.proofs.Waiting.{goes_by_value}
use Rattle.source_walk_go.proofs.BlockFrames.{loop_ends}
use Rattle.source_walk_go.proofs.blocks.turn_if.Goals as goal

pub returns-then-goes_on : goal.returns-then-goes_on
returns-then-goes_on c = if_ok c.turn.result _ _ c.turn.ensures (λ d h r. goes_by_value (ap Bool c.if-goes_on.true) (h r))

pub returns-else-goes_on : goal.returns-else-goes_on
returns-else-goes_on c = λ r. goes_by_value (ap Bool c.if-goes_on.false) (loop_ends r (state_of c.args.w.now) c.args.depth c.args.test c.args.body)
