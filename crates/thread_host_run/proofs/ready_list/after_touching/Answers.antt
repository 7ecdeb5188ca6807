use Rattle.std.proofs.Common.{subst}
use Rattle.lam_asks.specs.declared.ask.Ask.{Ask}
use Rattle.lam_machine_terms.specs.Turns.{Moment}
use Rattle.thread_host_run.specs.Kept.{IsAsk}
use Rattle.thread_host_run.proofs.Touching.{after_any, of_enter, of_leave}
use Rattle.thread_host_run.proofs.ready_list.after_touching.Goals as goal

pub returns-in-MonEnter-clause-lists : goal.returns-in-MonEnter-clause-lists
returns-in-MonEnter-clause-lists c = λ before e turn is lists.
    c.after_monitor.ensures.lists before e turn (of_enter c.in-MonEnter.r e.what (subst (λ (a : Ask). IsAsk a e.what) c.in-MonEnter.is is)) lists

pub returns-in-MonLeave-clause-lists : goal.returns-in-MonLeave-clause-lists
returns-in-MonLeave-clause-lists c = λ before e turn is lists.
    c.after_monitor-in-MonLeave.ensures.lists before e turn (of_leave c.in-MonLeave.r e.what (subst (λ (a : Ask). IsAsk a e.what) c.in-MonLeave.is is)) lists

pub returns-in_default-clause-lists : goal.returns-in_default-clause-lists
returns-in_default-clause-lists c = λ before e turn is lists.
    let m : Moment = record { event = e; made = turn.made; world = c.args.world.now } in
    c.after_touch.ensures.lists tt (after_any c.args.code.now before c.args.thread m turn.is c.args.list.now.names.keys c.args.list.now.prospects.items lists.tell)
