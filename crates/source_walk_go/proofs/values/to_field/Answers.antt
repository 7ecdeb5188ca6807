use Rattle.source_walk_parts.proofs.Steps.{if_ok}
use Rattle.source_walk_parts.specs.States.{state_of}
use Rattle.source_walk_go.proofs.ValueFrames.{to_field_by}
use Rattle.source_walk_go.proofs.values.to_field.Goals as goal

pub returns : goal.returns
returns c = if_ok c.reads.result _ _ c.reads.ensures (λ d h r. to_field_by r (state_of c.args.w.now) c.args.v c.args.at c.args.sort c.field_access-access.result c.field_access-access.ensures d (state_of c.reads.new.w) (h r))
