use Rattle.std.proofs.Common.{Option, refl, subst}
use Rattle.lam_asks.specs.declared.answer.Event.{Event}
use Rattle.lam_machine.specs.Privately.{private_event}
use Rattle.thread_host_run.specs.Courses.{TookTurn}
use Rattle.thread_host_run.proofs.ready_list.list_after_turn.Goals as goal

pub returns-in-None-clause-lists : goal.returns-in-None-clause-lists
returns-in-None-clause-lists c = λ before turn lists.
    c.after_quiet_turn.ensures.lists before (private_event before c.args.thread) (subst (λ (o : Option Event). TookTurn c.args.code.now c.args.thread before o c.args.world.now) c.in-None.is turn) refl lists

pub returns-in-Some-clause-lists : goal.returns-in-Some-clause-lists
returns-in-Some-clause-lists c = λ before turn lists.
    c.after_event.ensures.lists before c.in-Some.event (subst (λ (o : Option Event). TookTurn c.args.code.now c.args.thread before o c.args.world.now) c.in-Some.is turn) refl lists
