use Rattle.std.proofs.Common.{◌∙◌, refl, sym, ap, subst}
use Rattle.std.specs.Option.{option_copied_mut}
use Rattle.lam_value.proofs.Maps.{some_is, on_ok, on_ok_so, on_err_so}
use Rattle.std.specs.FinMap.{get}
use Rattle.lam_value.proofs.CountLemmas.{either_way}
use Rattle.labelled_pipes.specs.Queues.{IsSound}
use Rattle.labelled_pipes.specs.Messages.{joined}
use Rattle.labelled_pipes.proofs.QueueLemmas.{unwritten, written, line_kept, sound_changed}
use Rattle.labelled_pipes.proofs.pipes.Pipes.send.Goals as goal

pub returns-in-None-clause-ok : goal.returns-in-None-clause-ok
returns-in-None-clause-ok c =
    on_ok _ c.nothing_sent.result (unwritten c.self.inside.queues.entries c.self.inside.counters c.args.self.now c.self.view_is c.get_mut.follows.lender-at-none.entries c.args.p.now (joined c.args.m) (ap (λ m. m.entries) c.get_mut.follows.holds-at-none)
    (sym c.get_mut.ensures.value ∙ ap option_copied_mut c.in-None.is))

pub returns-in-Some-clause-ok : goal.returns-in-Some-clause-ok
returns-in-Some-clause-ok c =
    let there = sym c.get_mut.ensures.value ∙ ap option_copied_mut c.in-Some.is in
    let wrote = c.get_mut.follows.holds c.join_queue.new.queue in
    on_ok_so _ _ c.join_queue.result (λ new.
    written c.self.inside.queues.entries c.self.inside.counters c.args.self.now c.self.view_is (c.get_mut.follows.lender c.join_queue.new.queue).entries c.args.p.now c.in-Some.queue.now c.join_queue.new.queue (joined c.args.m) there new (wrote.3 (some_is _ c.in-Some.queue.now there)).0)
    c.join_queue.ensures.ok

pub returns-in-Some-clause-err : goal.returns-in-Some-clause-err
returns-in-Some-clause-err c =
    let there = sym c.get_mut.ensures.value ∙ ap option_copied_mut c.in-Some.is in
    let wrote = c.get_mut.follows.holds c.join_queue.new.queue in
    on_err_so _ _ c.join_queue.result (λ same.
    line_kept c.self.inside.queues.entries c.self.inside.counters c.args.self.now c.self.view_is (c.get_mut.follows.lender c.join_queue.new.queue).entries c.args.p.now c.in-Some.queue.now c.join_queue.new.queue there same (wrote.3 (some_is _ c.in-Some.queue.now there)).0)
    c.join_queue.ensures.err

pub invariant_of-self-in-Some : goal.invariant_of-self-in-Some
invariant_of-self-in-Some c =
    let there = sym c.get_mut.ensures.value ∙ ap option_copied_mut c.in-Some.is in
    let wrote = c.get_mut.follows.holds c.join_queue.new.queue in
    let put = (wrote.3 (some_is _ c.in-Some.queue.now there)).0 in
    let sound = subst IsSound c.self.view_is c.self.invariant in
    either_way _ c.join_queue.result c.join_queue.ensures.ok c.join_queue.ensures.err
    (λ new. subst IsSound (sym (written c.self.inside.queues.entries c.self.inside.counters c.args.self.now c.self.view_is (c.get_mut.follows.lender c.join_queue.new.queue).entries c.args.p.now c.in-Some.queue.now c.join_queue.new.queue (joined c.args.m) there new put))
    (sound_changed (get c.args.self.now.waiting c.args.p.now) c.args.self.now c.args.p.now (joined c.args.m) refl sound))
    (λ same. subst IsSound (sym (line_kept c.self.inside.queues.entries c.self.inside.counters c.args.self.now c.self.view_is (c.get_mut.follows.lender c.join_queue.new.queue).entries c.args.p.now c.in-Some.queue.now c.join_queue.new.queue there same put)) sound)
