use Rattle.lam_machine_terms.specs.Turns.{Moment}
use Rattle.thread_host_run.proofs.Touching.{after_monitor}
use Rattle.thread_host_run.proofs.ready_list.after_monitor.Goals as goal

pub returns-clause-lists : goal.returns-clause-lists
returns-clause-lists c = λ before e turn of lists.
    let m : Moment = record { event = e; made = turn.made; world = c.args.world.now } in
    c.after_touch.ensures.lists c.touched_at-touched.ensures.held
    (after_monitor c.args.code.now before c.args.thread m turn.is c.args.list.now.names.keys c.args.list.now.prospects.items lists.tell c.touched_at-touched.result c.args.thing.now of c.touched_at-touched.ensures.touches)
