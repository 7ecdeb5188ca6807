use Rattle.std.proofs.Common.{◌∙◌, refl, sym, ap, subst}
use Rattle.std.specs.Option.{option_copied_mut}
use Rattle.lam_value.proofs.Maps.{some_is}
use Rattle.std.specs.FinMap.{get}
use Rattle.labelled_pipes.specs.Queues.{IsSound}
use Rattle.labelled_pipes.specs.Messages.{front_of, rest_of}
use Rattle.labelled_pipes.proofs.QueueLemmas.{none_there, line_there, unwritten, written, line_kept, nothing_taken, if_none, sound_changed}
use Rattle.labelled_pipes.proofs.pipes.Pipes.receive.Goals as goal

pub returns-in-None-clause-value : goal.returns-in-None-clause-value
returns-in-None-clause-value c = ap (front_of c.args.kind) (none_there c.self.inside.queues.entries c.self.inside.counters c.args.self.now c.self.view_is c.args.p.now (sym c.get_mut.ensures.value ∙ ap option_copied_mut c.in-None.is))

pub returns-in-None-clause-new : goal.returns-in-None-clause-new
returns-in-None-clause-new c =
    unwritten c.self.inside.queues.entries c.self.inside.counters c.args.self.now c.self.view_is c.get_mut.follows.lender-at-none.entries c.args.p.now (rest_of c.args.kind) (ap (λ m. m.entries) c.get_mut.follows.holds-at-none)
    (sym c.get_mut.ensures.value ∙ ap option_copied_mut c.in-None.is)

pub returns-in-Some-clause-value : goal.returns-in-Some-clause-value
returns-in-Some-clause-value c = c.take_from.ensures.value ∙ ap (front_of c.args.kind) (line_there c.self.inside.queues.entries c.self.inside.counters c.args.self.now c.self.view_is c.args.p.now c.in-Some.queue.now (sym c.get_mut.ensures.value ∙ ap option_copied_mut c.in-Some.is))

pub returns-in-Some-clause-new : goal.returns-in-Some-clause-new
returns-in-Some-clause-new c =
    let there = sym c.get_mut.ensures.value ∙ ap option_copied_mut c.in-Some.is in
    let wrote = c.get_mut.follows.holds c.take_from.new.queue in
    written c.self.inside.queues.entries c.self.inside.counters c.args.self.now c.self.view_is (c.get_mut.follows.lender c.take_from.new.queue).entries c.args.p.now c.in-Some.queue.now c.take_from.new.queue (rest_of c.args.kind) there c.take_from.ensures.new (wrote.3 (some_is _ c.in-Some.queue.now there)).0

pub returns-in-Some-clause-none : goal.returns-in-Some-clause-none
returns-in-Some-clause-none c =
    let there = sym c.get_mut.ensures.value ∙ ap option_copied_mut c.in-Some.is in
    let wrote = c.get_mut.follows.holds c.take_from.new.queue in
    if_none _ c.take_from.result (λ e.
    line_kept c.self.inside.queues.entries c.self.inside.counters c.args.self.now c.self.view_is (c.get_mut.follows.lender c.take_from.new.queue).entries c.args.p.now c.in-Some.queue.now c.take_from.new.queue there
    (c.take_from.ensures.new ∙ nothing_taken c.args.kind c.in-Some.queue.now (sym c.take_from.ensures.value ∙ e)) (wrote.3 (some_is _ c.in-Some.queue.now there)).0)

pub invariant_of-self-in-Some : goal.invariant_of-self-in-Some
invariant_of-self-in-Some c =
    let there = sym c.get_mut.ensures.value ∙ ap option_copied_mut c.in-Some.is in
    let wrote = c.get_mut.follows.holds c.take_from.new.queue in
    subst IsSound (sym (written c.self.inside.queues.entries c.self.inside.counters c.args.self.now c.self.view_is (c.get_mut.follows.lender c.take_from.new.queue).entries c.args.p.now c.in-Some.queue.now c.take_from.new.queue (rest_of c.args.kind) there c.take_from.ensures.new (wrote.3 (some_is _ c.in-Some.queue.now there)).0))
    (sound_changed (get c.args.self.now.waiting c.args.p.now) c.args.self.now c.args.p.now (rest_of c.args.kind) refl (subst IsSound c.self.view_is c.self.invariant))
