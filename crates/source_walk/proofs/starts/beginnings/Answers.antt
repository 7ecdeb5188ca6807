use Rattle.std.proofs.Common.{length, refl}
use Rattle.std.proofs.lemmas.Option.{slice_get_read}
use Rattle.lam_resolve_tree.specs.Tree.{resolved_tree}
use Rattle.source_walk.proofs.Starting.{one_more}
use Rattle.source_walk.proofs.starts.beginnings.Goals as goal

pub loop-thread-preserved : goal.loop-thread-preserved
loop-thread-preserved c =
    one_more (resolved_tree c.args.program.now) c.args.code.now c.args.threads.now c.loop-thread.thread-index c.loop-thread.all.items c.loop-thread.invariant c.thread-item.result c.in_ok-beginning.field-0 c.push.new.self.items
    (slice_get_read c.args.threads.now (length c.args.threads.now) c.loop-thread.thread-index c.thread-item.result refl c.loop-thread-test.true c.thread-item.is) c.in_ok-beginning.ensures c.in_ok-push.ensures.items
