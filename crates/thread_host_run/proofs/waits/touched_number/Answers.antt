use Rattle.std.proofs.Common.{◌≡◌, ◌∙◌, sym, ap, arith, slice_get}
use Rattle.thread_host_run.proofs.waits.touched_number.Goals as goal

pub returns-in-Some-clause-held : goal.returns-in-Some-clause-held
returns-in-Some-clause-held c =
    let same : c.in-Ok.number ≡ c.args.at = omega arith in
    (c.in-Some.name.now, ap (slice_get c.args.names.now.keys) same ∙ sym c.in-Some.ensures.key, c.holder_in.ensures)
