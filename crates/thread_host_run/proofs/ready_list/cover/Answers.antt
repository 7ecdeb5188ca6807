use Rattle.std.proofs.Common.{◌∙◌, ap, arith}
use Rattle.thread_host_run.proofs.Tellings.{same_old, empty_old, more_old, then_old}
use Rattle.thread_host_run.proofs.ready_list.cover.Goals.{then-len-count, else-len-count}
use Rattle.thread_host_run.proofs.ready_list.cover.Goals as goal

pub loop-place-preserved : goal.loop-place-preserved
loop-place-preserved c =
    let e = c.push_reserved.ensures in
    (more_old c.if-len-count.prospects.items c.loop-place.prospects.items c.push_reserved.new.self.items c.loop-place.invariant.0 e.items, omega (arith, e.len, c.loop-place.invariant.1), omega (arith, e.capacity, c.loop-place.invariant.2))

pub returns-clause-each : goal.returns-clause-each
returns-clause-each c =
    let ps = c.args.prospects.now.items in
    let qs = c.if-len-count.prospects.items in
    elim c.if-len-count.branch [
      | then-len-count w ↦ then_old ps qs c.loop-place.prospects.items (empty_old ps qs (ap (λ v. v.items) w.prospects-is ∙ w.clear.ensures.items)) c.loop-place.invariant.0
      | else-len-count w ↦ then_old ps qs c.loop-place.prospects.items (same_old ps qs (ap (λ v. v.items) w.prospects-is)) c.loop-place.invariant.0
    ]
