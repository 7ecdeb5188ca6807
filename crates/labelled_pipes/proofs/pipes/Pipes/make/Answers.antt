use Rattle.std.proofs.Common.{◌≡◌, ◌∙◌, sym, subst, arith}
use Rattle.lam_value.specs.Homes.{home_of}
use Rattle.lam_value.proofs.Maps.{on_err}
use Rattle.labelled_pipes.specs.Queues.{with_pipe, IsSound}
use Rattle.labelled_pipes.specs.Seen.{queues_of}
use Rattle.labelled_pipes.proofs.QueueLemmas.{kept, added, room_seen, sound_pipe}
use Rattle.labelled_pipes.proofs.pipes.Pipes.make.Goals as goal

made : (c : goal.In_ok-name) → queues_of c.add_pipe.new.queues.entries c.add_pipe.new.counters ≡ with_pipe c.args.self.now (home_of c.args.maker.now c.args.own.now)
made c =
    let home = home_of c.args.maker.now c.args.own.now in
    added c.self.inside.queues.entries c.self.inside.counters c.args.self.now c.self.view_is c.add_pipe.new.queues.entries c.add_pipe.new.counters home c.next-number.result
    (room_seen c.self.inside.queues.entries c.self.inside.counters c.args.self.now c.self.view_is home c.next-number.result c.next-number.ensures.value) c.in_ok-name.ensures.queues c.in_ok-name.ensures.counters

pub invariant_of-self : goal.invariant_of-self
invariant_of-self c = subst IsSound (c.self.view_is ∙ sym (kept c.self.inside.queues.entries c.self.inside.counters c.args.self.now c.self.view_is c.add_pipe.new.queues.entries c.add_pipe.new.counters c.in_err-name.ensures.same_queues c.in_err-name.ensures.same_counters)) c.self.invariant

pub returns-in_err-name-clause-err : goal.returns-in_err-name-clause-err
returns-in_err-name-clause-err c = on_err _ c.from_residual.result (kept c.self.inside.queues.entries c.self.inside.counters c.args.self.now c.self.view_is c.add_pipe.new.queues.entries c.add_pipe.new.counters c.in_err-name.ensures.same_queues c.in_err-name.ensures.same_counters)

pub invariant_of-self-2 : goal.invariant_of-self-2
invariant_of-self-2 c =
    let home = home_of c.args.maker.now c.args.own.now in
    let sound = subst IsSound c.self.view_is c.self.invariant in
    let number = c.next-number.ensures.value in
    let bound = c.next-number.ensures.bound in
    let free = c.if-number-eq-HOME_LIMIT.false in
    subst IsSound (sym (made c)) (sound_pipe c.args.self.now home sound (omega arith))

pub returns-clause-ok : goal.returns-clause-ok
returns-clause-ok = made
