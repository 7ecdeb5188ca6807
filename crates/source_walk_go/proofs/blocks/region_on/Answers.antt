use Rattle.std.proofs.Common.{ap}
use Rattle.source_walk_state.specs.declared.Frame.TheVariants as frame
use Rattle.source_walk_parts.proofs.Steps.{if_ok}
use Rattle.source_walk_parts.specs.States.{state_of}
use Rattle.source_walk_go.proofs.Waiting.{by_frame}
use Rattle.source_walk_go.proofs.BlockFrames.{enters_by}
use Rattle.source_walk_go.proofs.blocks.region_on.Goals as goal

pub returns-in-Label : goal.returns-in-Label
returns-in-Label c = if_ok c.label_given.result _ _ c.label_given.ensures (λ d h r. by_frame (state_of c.args.w.now) (ap (λ b. frame.Region c.args.depth c.args.region b) c.in-Label.is) (h r))

pub returns-in-Caps : goal.returns-in-Caps
returns-in-Caps c = λ r. by_frame (state_of c.args.w.now) (ap (λ b. frame.Region c.args.depth c.args.region b) c.in-Caps.is) (enters_by r (state_of c.args.w.now) c.args.depth c.args.region c.in-Caps.label c.args.v c.enter.result c.enter.ensures)

pub returns-in-Body : goal.returns-in-Body
returns-in-Body c = λ r. by_frame (state_of c.args.w.now) (ap (λ b. frame.Region c.args.depth c.args.region b) c.in-Body.is) (c.end_body.ensures c.args.v c.args.depth c.args.region r)

pub returns-in-Caught : goal.returns-in-Caught
returns-in-Caught c = if_ok c.handle.result _ _ c.handle.ensures (λ d h r. by_frame (state_of c.args.w.now) (ap (λ b. frame.Region c.args.depth c.args.region b) c.in-Caught.is) (h c.args.v r))
