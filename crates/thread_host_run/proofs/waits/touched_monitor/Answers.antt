use Rattle.std.proofs.Common.{sym, ◌∙◌, None}
use Rattle.thread_host_run.specs.declared.waits.Touched.TheVariants.{OneMonitor}
use Rattle.thread_host_run.proofs.NumberLemmas.{touches_missing, touches_found}
use Rattle.thread_host_run.proofs.waits.touched_monitor.Goals as goal

pub returns-in-None-clause-touches : goal.returns-in-None-clause-touches
returns-in-None-clause-touches c = touches_missing c.args.names.now.keys c.args.name.now (OneMonitor None None) c.len.ensures.unique (sym c.get_index_of.ensures.index ∙ c.in-None.is)

pub returns-in-Some-clause-touches : goal.returns-in-Some-clause-touches
returns-in-Some-clause-touches c =
    touches_found c.args.names.now.keys c.args.name.now c.touched_number.result c.in-Some.at c.len.ensures.unique (sym c.get_index_of.ensures.index ∙ c.in-Some.is) c.touched_number.ensures.stale
