use Rattle.source_walk_parts.proofs.Steps.{if_ok}
use Rattle.source_walk_parts.specs.States.{state_of}
use Rattle.source_walk_go.proofs.Waiting.{goes_from, goes_to}
use Rattle.source_walk_go.proofs.DelimiterFrames.{raises_end}
use Rattle.source_walk_go.proofs.delimiters.raise.Goals as goal

pub returns-in-None : goal.returns-in-None
returns-in-None c = λ r. goes_to c.in-None.ensures.1 (raises_end r (state_of c.args.w.now) c.args.fault c.in-None.ensures.0)

pub returns-in-Some : goal.returns-in-Some
returns-in-Some c = if_ok c.raise_to.result _ _ c.raise_to.ensures (λ d h r. goes_from c.in-Some.ensures (h r))
