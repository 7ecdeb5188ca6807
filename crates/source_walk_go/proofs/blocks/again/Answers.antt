use Rattle.std.proofs.Common.{◌-◌, arith}
use Rattle.source_walk_parts.proofs.Steps.{if_ok}
use Rattle.source_walk_parts.specs.States.{state_of}
use Rattle.source_walk_go.proofs.BlockFrames.{again_spent, again_goes}
use Rattle.source_walk_go.proofs.blocks.again.Goals as goal

pub returns-then-depth-eq0 : goal.returns-then-depth-eq0
returns-then-depth-eq0 c = λ v r. again_spent r (state_of c.args.w.now) v c.args.depth c.args.test c.args.body c.if-depth-eq0.true

pub returns : goal.returns
returns c = if_ok c.wait.result _ _ c.wait.ensures (λ d w v r. again_goes r (state_of c.args.w.now) v c.args.depth (c.args.depth - 1) c.args.test c.args.body (omega (arith, c.if-depth-eq0.false)) w)
