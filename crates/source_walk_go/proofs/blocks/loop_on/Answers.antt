use Rattle.std.proofs.Common.{ap}
use Rattle.source_walk_state.specs.declared.Frame.TheVariants as frame
use Rattle.source_walk_parts.proofs.Steps.{if_ok}
use Rattle.source_walk_parts.specs.States.{state_of}
use Rattle.source_walk_go.proofs.Waiting.{by_frame}
use Rattle.source_walk_go.proofs.blocks.loop_on.Goals as goal

pub returns-then-after_test : goal.returns-then-after_test
returns-then-after_test c = if_ok c.tested.result _ _ c.tested.ensures (λ d h r. by_frame (state_of c.args.w.now) (ap (frame.Loop c.args.depth c.args.test c.args.body) c.if-after_test.true) (h r))

pub returns-else-after_test : goal.returns-else-after_test
returns-else-after_test c = if_ok c.again.result _ _ c.again.ensures (λ d h r. by_frame (state_of c.args.w.now) (ap (frame.Loop c.args.depth c.args.test c.args.body) c.if-after_test.false) (h c.args.v.now r))
