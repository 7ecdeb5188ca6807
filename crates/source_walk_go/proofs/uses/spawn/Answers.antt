use Rattle.source_walk_go.proofs.Calls.{spawns_go}
use Rattle.source_walk_go.proofs.uses.spawn.Goals as goal

pub returns : goal.returns
returns c = λ r s. spawns_go r s c.args.depth c.args.done c.args.function c.args.caps c.spawns.result c.spawns.ensures
