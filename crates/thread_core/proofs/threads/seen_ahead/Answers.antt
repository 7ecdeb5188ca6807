use Rattle.std.proofs.Common.{◌∙◌, sym, ap}
use Rattle.thread_core.specs.Turning.{awaited_in}
use Rattle.thread_core.proofs.Tops.{first_is}
use Rattle.thread_core.proofs.Untested.{waits_same}
use Rattle.thread_core.proofs.threads.seen_ahead.Goals as goal

pub returns-in-Some-clause-waits : goal.returns-in-Some-clause-waits
returns-in-Some-clause-waits c =
    c.context_outlook.ensures.waits
    ∙ (waits_same c.in-Some.c.now.label c.args.code.now c.in-Some.c.now
    ∙ sym (ap (awaited_in c.args.code.now) (first_is c.args.thread.now.contexts c.in-Some.c.now (sym c.in-Some.ensures))))
