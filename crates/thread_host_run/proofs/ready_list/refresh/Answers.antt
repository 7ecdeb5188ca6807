use Rattle.std.proofs.Common.{◌≡◌, ◌<◌, length, ◌∙◌, ap, arith, refl}
use Rattle.std.specs.Prelude.{vec_len, vec_capacity}
use Rattle.std.proofs.lemmas.Option.{slice_get_read}
use Rattle.thread_host_run.proofs.Tellings.{gone_taken, gone_left, gone_all}
use Rattle.thread_host_run.proofs.ready_list.refresh.Goals.{then-prospect, else-prospect}
use Rattle.thread_host_run.proofs.ready_list.refresh.Goals as goal

pub loop-thread-preserved : goal.loop-thread-preserved
loop-thread-preserved c =
    let t = c.loop-thread.thread in
    let inv = c.loop-thread.invariant in
    let ps = c.loop-thread.prospects.items in
    let known = c.index-known.result.now in
    let q = c.look_again-prospect.result in
    let names = c.look_again-prospect.new.names.keys in
    let lt : t < length ps = omega (arith, inv.0.count, c.requires.count, c.few_threads-thread-end.ensures.count, c.loop-thread-test.true) in
    let at = slice_get_read ps (length ps) t known refl lt c.index-known.ensures in
    elim c.if-prospect.branch [
      | then-prospect w ↦ (
        gone_taken c.args.touched c.args.code.now c.args.world.now c.args.names.now.keys c.loop-thread.names.keys names c.args.prospects.now.items ps _ c.loop-thread.threads.items c.if-prospect.threads.items t known q inv.0 at c.look_again-prospect.ensures.more c.look_again-prospect.ensures.tells refl
            w.if-prospect.true (ap (λ v. v.items) w.threads-is ∙ w.push_reserved.ensures.items),
        (let len = ap vec_len w.threads-is ∙ w.push_reserved.ensures.len in omega (arith, len, inv.1)),
        (let capacity = ap vec_capacity w.threads-is ∙ w.push_reserved.ensures.capacity in omega (arith, capacity, inv.2)),
        inv.3,
      )
      | else-prospect w ↦ (
        gone_left c.args.touched c.args.code.now c.args.world.now c.args.names.now.keys c.loop-thread.names.keys names c.args.prospects.now.items ps _ c.loop-thread.threads.items c.if-prospect.threads.items t known q inv.0 at c.look_again-prospect.ensures.more c.look_again-prospect.ensures.tells refl
            w.if-prospect.false (ap (λ v. v.items) w.threads-is),
        (let len = ap vec_len w.threads-is in omega (arith, len, inv.1)),
        (let capacity = ap vec_capacity w.threads-is in omega (arith, capacity, inv.2)),
        inv.3,
      )
    ]

pub returns-clause-lists : goal.returns-clause-lists
returns-clause-lists c = λ held but.
    let n : c.loop-thread.thread ≡ length c.args.world.now.threads = omega (arith, c.few_threads-thread-end.ensures.count) in
    gone_all c.args.touched c.args.code.now c.args.world.now c.args.names.now.keys c.loop-thread.names.keys c.args.prospects.now.items c.loop-thread.prospects.items c.loop-thread.threads.items c.loop-thread.thread n c.requires.count c.loop-thread.invariant.0 held but
