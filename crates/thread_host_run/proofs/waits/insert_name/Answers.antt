use Rattle.std.proofs.Common.{◌∙◌, Some, sym, ap}
use Rattle.thread_host_run.proofs.NumberLemmas.{name_same}
use Rattle.thread_host_run.proofs.waits.insert_name.Goals as goal

pub returns-clause-stands : goal.returns-clause-stands
returns-clause-stands c =
    let there = c.in_ok-at.ensures.stored in there.1 ∙ ap (λ n. Some n) (sym (name_same c.args.name there.0 there.2))
