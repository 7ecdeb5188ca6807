use Rattle.std.proofs.Common.{ap, ◌∙◌, false, arith}
use Rattle.source_walk_state.specs.declared.Frame.TheVariants as frame
use Rattle.source_walk_parts.specs.States.{state_of, pushed}
use Rattle.source_walk_go.proofs.BlockFrames.{turn_spent, turn_goes}
use Rattle.source_walk_go.proofs.blocks.turn.Goals as goal

pub returns-then-w-eq0 : goal.returns-then-w-eq0
returns-then-w-eq0 c = λ r. turn_spent r (state_of c.args.w.now) c.args.depth c.args.test c.args.body c.if-w-eq0.true

pub returns : goal.returns
returns c = λ r. turn_goes r (state_of c.args.w.now) c.args.depth c.args.test c.args.body (state_of c.push.new.w) (omega (arith, c.if-w-eq0.false)) (c.in_ok-push.ensures ∙ ap (λ t. pushed t (frame.Loop c.args.depth c.args.test c.args.body false)) c.spend.ensures)
