use Rattle.std.proofs.Common.{◌∙◌, sym, ap, subst}
use Rattle.std.specs.Prelude.{if◌then◌else◌}
use Rattle.monitor_core.specs.Held.{is_free}
use Rattle.thread_host_run.specs.Waiting.{IsHeldSo, is_monitor}
use Rattle.thread_host_run.specs.declared.waits.Touched.{Touched}
use Rattle.thread_host_run.proofs.WaitingLemmas.{one_is}
use Rattle.thread_host_run.proofs.waits.has_monitor.Goals as goal

pub returns-in-OneMonitor : goal.returns-in-OneMonitor
returns-in-OneMonitor c = λ n at held.
    c.has_one.ensures
    ∙ one_is c.args.world.now c.args.names.now.keys c.in-OneMonitor.one c.in-OneMonitor.holder c.args.number c.args.thread c.args.was n at (subst (IsHeldSo c.args.names.now.keys c.args.world.now) c.in-OneMonitor.is held)
    ∙ ap (λ (t : Touched). if is_monitor t c.args.number then is_free c.args.world.now.monitors n c.args.thread else c.args.was) (sym c.in-OneMonitor.is)

pub returns-in-Everything : goal.returns-in-Everything
returns-in-Everything c = λ n at held.
    c.has_any.ensures n at
    ∙ ap (λ (t : Touched). if is_monitor t c.args.number then is_free c.args.world.now.monitors n c.args.thread else c.args.was) (sym c.in-Everything.is)
