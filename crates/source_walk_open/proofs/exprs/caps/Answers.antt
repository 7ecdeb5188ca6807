use Rattle.source_walk_parts.proofs.Steps.{if_ok}
use Rattle.source_walk_parts.specs.States.{state_of}
use Rattle.source_walk_open.proofs.Signing.{caps_open}
use Rattle.source_walk_open.proofs.exprs.caps.Goals as goal

pub returns : goal.returns
returns c = if_ok c.capabilities.result _ _ c.capabilities.ensures (λ d e depth. rw e (caps_open (state_of c.args.w.now) depth c.args.items.now))
