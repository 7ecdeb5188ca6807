use Rattle.thread_host_run.proofs.ListedReady.{listed_ready}
use Rattle.thread_host.proofs.visits.picked.Goals as goal

pub returns : goal.returns
returns g c =
    listed_ready c.args.code.now c.args.course.now.world c.args.ready.now c.place_from-at.result 0 c.requires.list c.place_from-at.ensures
