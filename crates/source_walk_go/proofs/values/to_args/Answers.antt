use Rattle.source_walk_go.proofs.ValueFrames.{to_args}
use Rattle.source_walk_go.proofs.values.to_args.Goals as goal

pub returns-in-Ok : goal.returns-in-Ok
returns-in-Ok c = λ s r. to_args r s c.args.v c.args.depth c.args.rest c.args.done c.args.using c.in-Ok.all c.in-Ok.ensures
