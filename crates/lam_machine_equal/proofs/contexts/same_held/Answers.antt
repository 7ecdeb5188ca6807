use Rattle.lam_machine_equal.proofs.ThreadParts.{seen_same}
use Rattle.lam_machine_equal.proofs.contexts.same_held.Goals as goal

pub returns : goal.returns
returns c = seen_same c.same_names.result c.held.result.now c.held-2.result.now c.args.a.now.held c.args.b.now.held c.same_names.ensures c.held.ensures c.held-2.ensures
