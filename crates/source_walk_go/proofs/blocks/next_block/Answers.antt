use Rattle.std.proofs.Common.{ap}
use Rattle.source_walk_state.specs.declared.Frame.TheVariants as frame
use Rattle.source_walk_parts.proofs.Steps.{if_ok}
use Rattle.source_walk_parts.specs.States.{state_of}
use Rattle.source_walk_go.proofs.Waiting.{by_frame}
use Rattle.source_walk_go.proofs.BlockFrames.{block_next}
use Rattle.source_walk_go.proofs.blocks.next_block.Goals as goal

pub returns-in-Statement : goal.returns-in-Statement
returns-in-Statement c = λ r. by_frame (state_of c.args.w.now) (ap (frame.Block c.args.depth c.args.rest) c.in-Statement.is) (block_next r (state_of c.args.w.now) c.args.v c.args.depth c.args.rest)

pub returns-in-Thing : goal.returns-in-Thing
returns-in-Thing c = if_ok c.take.result _ _ c.take.ensures (λ d h r. by_frame (state_of c.args.w.now) (ap (frame.Block c.args.depth c.args.rest) c.in-Thing.is) (h r))

pub returns-in-Taking : goal.returns-in-Taking
returns-in-Taking c = if_ok c.hold.result _ _ c.hold.ensures (λ d h r. by_frame (state_of c.args.w.now) (ap (frame.Block c.args.depth c.args.rest) c.in-Taking.is) (h c.args.v r))
