use Rattle.std.proofs.Common.{ap}
use Rattle.source_walk_state.specs.declared.Frame.TheVariants as frame
use Rattle.source_walk_parts.proofs.Steps.{if_ok}
use Rattle.source_walk_parts.specs.States.{state_of}
use Rattle.source_walk_go.proofs.Waiting.{by_frame}
use Rattle.source_walk_go.proofs.ValueFrames.{of_element, of_field, of_index}
use Rattle.source_walk_go.proofs.values.to_expr.Goals as goal

pub returns-in-Left : goal.returns-in-Left
returns-in-Left c = if_ok c.to_operand.result _ _ c.to_operand.ensures (λ d h r. by_frame (state_of c.args.w.now) (ap (frame.Expr c.args.depth c.args.e) c.in-Left.is) (h r))

pub returns-in-OfElement : goal.returns-in-OfElement
returns-in-OfElement c = if_ok c.wait.result _ _ c.wait.ensures (λ d w r. by_frame (state_of c.args.w.now) (ap (frame.Expr c.args.depth c.args.e) c.in-OfElement.is) (of_element r (state_of c.args.w.now) c.args.v c.args.depth c.args.e c.in-OfElement.sort w))

pub returns-in-OfField : goal.returns-in-OfField
returns-in-OfField c = if_ok c.wait-in-OfField.result _ _ c.wait-in-OfField.ensures (λ d w r. by_frame (state_of c.args.w.now) (ap (frame.Expr c.args.depth c.args.e) c.in-OfField.is) (of_field r (state_of c.args.w.now) c.args.v c.args.depth c.args.e c.in-OfField.at w))

pub returns-in-OfIndex : goal.returns-in-OfIndex
returns-in-OfIndex c = if_ok c.wait-in-OfIndex.result _ _ c.wait-in-OfIndex.ensures (λ d w r. by_frame (state_of c.args.w.now) (ap (frame.Expr c.args.depth c.args.e) c.in-OfIndex.is) (of_index r (state_of c.args.w.now) c.args.v c.args.depth c.args.e c.in-OfIndex.array w))
