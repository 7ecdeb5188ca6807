use Rattle.std.proofs.Common.{List}
use Rattle.std.specs.Prelude.{IsTrue}
use Rattle.flow_labels.specs.Flow.{flows, public_label}
use Rattle.thread_steps.specs.Threads.{Thread}
use Rattle.pair_check.specs.Threads.{HaveSeenAlike, EndAlike}
use Rattle.pair_check.proofs.WorldLemmas.{as_read, threads_by}
use Rattle.pair_check.proofs.threads.same_threads.Goals as goal

pub returns : goal.returns
returns c =
    threads_by c.args.observer.now c.args.a.now c.args.b.now c.threads_alike.result
    (as_read (λ (xs ys : List Thread). HaveSeenAlike c.args.observer.now xs ys × (IsTrue (flows public_label c.args.observer.now) → EndAlike xs ys)) c.threads_alike.result
    c.threads.result.now c.threads-2.result.now c.args.a.now.threads c.args.b.now.threads c.threads.ensures.threads c.threads-2.ensures.threads c.threads_alike.ensures)
