use Rattle.lam_machine_terms.specs.Turns.{Moment}
use Rattle.thread_host_run.proofs.Others.{quiet_moves}
use Rattle.thread_host_run.proofs.Tellings.{moved_lists, turn_ready}
use Rattle.thread_host_run.proofs.ready_list.after_quiet_turn.Goals as goal

pub returns-clause-lists : goal.returns-clause-lists
returns-clause-lists c = λ before e turn quiet lists.
    let code = c.args.code.now in
    let w = c.args.world.now in
    let t = c.args.thread in
    let m : Moment = record { event = e; made = turn.made; world = w } in
    let looked = c.look-prospect in
    moved_lists code before t w (quiet_moves code before t m turn.is quiet) c.args.list.now.names.keys looked.new.names.keys c.args.list.now.prospects.items c.put.new.prospects.items looked.result c.args.list.now.threads.items c.keep.new.threads.items
    (turn_ready code before t m turn.is) lists looked.ensures.more looked.ensures.tells c.put.ensures.each c.put.ensures.count c.keep.ensures.list
