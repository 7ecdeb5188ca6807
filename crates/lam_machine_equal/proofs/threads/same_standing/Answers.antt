use Rattle.lam_machine_equal.proofs.ThreadParts.{seen_same}
use Rattle.lam_machine_equal.proofs.threads.same_standing.Goals as goal

pub returns : goal.returns
returns c = seen_same c.same_contexts.result c.contexts.result.now c.contexts-2.result.now c.args.a.now.contexts c.args.b.now.contexts c.same_contexts.ensures c.contexts.ensures c.contexts-2.ensures
