use Rattle.source_walk_parts.proofs.Steps.{if_ok}
use Rattle.source_walk_parts.specs.States.{state_of}
use Rattle.source_walk_go.proofs.ValueFrames.{to_index}
use Rattle.source_walk_go.proofs.values.to_index.Goals as goal

pub returns : goal.returns
returns c = if_ok c.wait.result _ _ c.wait.ensures (λ d w r. to_index r (state_of c.args.w.now) c.args.array c.args.depth c.args.index c.args.value w)
