use Rattle.source_walk_parts.proofs.Steps.{if_ok}
use Rattle.source_walk_parts.specs.States.{state_of}
use Rattle.source_walk_go.proofs.ValueFrames.{to_set_element_by}
use Rattle.source_walk_go.proofs.values.to_set_element.Goals as goal

pub returns : goal.returns
returns c = if_ok c.writes.result _ _ c.writes.ensures (λ d h r. to_set_element_by r (state_of c.args.w.now) c.args.v c.args.array c.args.index.now c.element_access-access.result c.element_access-access.ensures d (state_of c.writes.new.w) (h r))
