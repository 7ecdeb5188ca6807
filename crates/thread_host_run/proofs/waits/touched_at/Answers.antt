use Rattle.std.proofs.Common.{sym, None}
use Rattle.thread_core_effects.specs.Reading.{thing_in}
use Rattle.thread_host_run.specs.declared.waits.Touched.TheVariants.{OneMonitor}
use Rattle.thread_host_run.proofs.NumberLemmas.{touches_none}
use Rattle.thread_host_run.proofs.waits.touched_at.Goals as goal

pub returns-in-None-clause-touches : goal.returns-in-None-clause-touches
returns-in-None-clause-touches c = touches_none c.args.names.now.keys (thing_in c.args.thing.now) (OneMonitor None None) (sym c.in-None.ensures)
