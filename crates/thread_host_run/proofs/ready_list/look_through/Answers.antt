use Rattle.thread_host_run.proofs.Tellings.{covered}
use Rattle.thread_host_run.proofs.ready_list.look_through.Goals as goal

pub returns-clause-lists : goal.returns-clause-lists
returns-clause-lists c = λ held but.
    c.refresh.ensures.lists held (covered c.args.touched c.args.code.now c.args.world.now c.args.list.now.names.keys c.args.list.now.prospects.items c.cover.new.prospects.items c.cover.ensures.each but)
