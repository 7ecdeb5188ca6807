use Rattle.std.proofs.Common.{ap}
use Rattle.lam_machine_terms.specs.Turns.{moments}
use Rattle.audit_log_notes.specs.Sums.{summary_of, summary_lines}
use Rattle.lam_main_replay.specs.Threads.{made_budget}
use Rattle.lam_main_threads.proofs.TakenLemmas.{shown_as, threads_shown}
use Rattle.lam_main_threads.proofs.made_runs.made_run.Goals as goal

pub returns-in-Ok : goal.returns-in-Ok
returns-in-Ok g c =
    let ended = c.in-Ok.taken.ended in
    let seed = c.args.seed in
    let threads = c.args.threads in
    let shown = summary_lines seed threads (moments ended.parts.code ended.parts.turns.items ended.parts.start) in
    threads_shown c.args.code c.args.start made_budget (summary_lines seed threads) ended c.summed_run.result c.in-Ok.ensures.run
    (shown_as ended (summary_of seed threads c.in-Ok.taken.kept) shown c.summed_run.result (ap (summary_of seed threads) c.in-Ok.ensures.kept) c.summed_run.ensures)
