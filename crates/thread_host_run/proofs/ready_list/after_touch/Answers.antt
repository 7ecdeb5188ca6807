use Rattle.thread_host_run.proofs.Tellings.{forgot}
use Rattle.thread_host_run.proofs.ready_list.after_touch.Goals as goal

pub returns-then-len-ge-MOST_NAMES-clause-lists : goal.returns-then-len-ge-MOST_NAMES-clause-lists
returns-then-len-ge-MOST_NAMES-clause-lists c = λ held others. c.look_at_all.ensures.lists

pub returns-else-len-ge-MOST_NAMES-clause-lists : goal.returns-else-len-ge-MOST_NAMES-clause-lists
returns-else-len-ge-MOST_NAMES-clause-lists c = λ held others.
    c.look_through.ensures.lists held (forgot c.args.touched c.args.code.now c.args.world.now c.args.list.now.names.keys c.args.thread c.args.list.now.prospects.items c.put.new.prospects.items c.put.ensures.each others)
