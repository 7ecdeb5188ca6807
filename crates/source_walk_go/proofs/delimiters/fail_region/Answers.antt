use Rattle.std.proofs.Common.{ap}
use Rattle.source_walk_state.specs.declared.Frame.TheVariants as frame
use Rattle.source_walk_parts.proofs.Steps.{if_ok}
use Rattle.source_walk_parts.specs.States.{state_of}
use Rattle.source_walk_go.proofs.Waiting.{by_frame}
use Rattle.source_walk_go.proofs.DelimiterFrames.{raise_label, raise_caps}
use Rattle.source_walk_go.proofs.delimiters.fail_region.Goals as goal

pub returns-in-Label : goal.returns-in-Label
returns-in-Label c = λ r. by_frame (state_of c.args.w.now) (ap (λ b. frame.Region c.args.depth c.args.region b) c.in-Label.is) (raise_label r (state_of c.args.w.now) c.args.fault c.args.depth c.args.region c.in-Label.field-0)

pub returns-in-Caps : goal.returns-in-Caps
returns-in-Caps c = λ r. by_frame (state_of c.args.w.now) (ap (λ b. frame.Region c.args.depth c.args.region b) c.in-Caps.is) (raise_caps r (state_of c.args.w.now) c.args.fault c.args.depth c.args.region c.in-Caps.field-0)

pub returns-in-Body : goal.returns-in-Body
returns-in-Body c = if_ok c.catch.result _ _ c.catch.ensures (λ d h r. by_frame (state_of c.args.w.now) (ap (λ b. frame.Region c.args.depth c.args.region b) c.in-Body.is) (h r))

pub returns : goal.returns
returns c = λ r. by_frame (state_of c.args.w.now) (ap (λ b. frame.Region c.args.depth c.args.region b) c.in-Caught.is) (c.fail_outside.ensures c.args.depth c.args.region c.in-Caught.field-0 r)
