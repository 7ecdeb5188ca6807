use Rattle.source_walk_parts.proofs.Steps.{if_ok}
use Rattle.source_walk_parts.specs.States.{state_of}
use Rattle.source_walk_go.proofs.Calls.{built_goes}
use Rattle.source_walk_go.proofs.uses.built_in.Goals as goal

pub returns : goal.returns
returns c = if_ok c.built.result _ _ c.built.ensures (λ d e r. built_goes r (state_of c.args.w.now) c.args.depth c.args.done.now c.args.call c.args.sort d (rw c.as_slice.ensures at e))
