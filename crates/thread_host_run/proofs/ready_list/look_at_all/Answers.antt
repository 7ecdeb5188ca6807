use Rattle.thread_host_run.specs.declared.waits.Touched.TheVariants.{Everything}
use Rattle.thread_host_run.proofs.Tellings.{nothing_known}
use Rattle.thread_host_run.proofs.ready_list.look_at_all.Goals as goal

pub returns-clause-lists : goal.returns-clause-lists
returns-clause-lists c = c.look_through.ensures.lists tt (nothing_known Everything c.args.code.now c.args.world.now _ _ c.clear.ensures.items)
