use Rattle.source_walk_parts.proofs.Steps.{if_ok}
use Rattle.source_walk_parts.specs.States.{state_of}
use Rattle.source_walk_go.proofs.Waiting.{goes_by_value}
use Rattle.source_walk_go.proofs.BlockFrames.{loop_breaks}
use Rattle.source_walk_go.proofs.blocks.tested.Goals as goal

pub returns-in-Bool : goal.returns-in-Bool
returns-in-Bool c = if_ok c.turn_if.result _ _ c.turn_if.ensures (λ d h r. goes_by_value c.in-Bool.is (h r))

pub returns-in_default : goal.returns-in_default
returns-in_default c = λ r. loop_breaks r (state_of c.args.w.now) c.args.v.now c.args.depth c.args.test c.args.body c.in_default.not-Bool
