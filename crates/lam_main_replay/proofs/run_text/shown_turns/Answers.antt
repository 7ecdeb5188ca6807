use Rattle.std.proofs.Common.{Ok, string_bytes, refl}
use Rattle.lam_machine_runs.specs.Stops.{stopped_at}
use Rattle.lam_main_replay.specs.Asked.{lines_for}
use Rattle.lam_main_replay.proofs.RunLemmas.{run_says, no_run_says, no_shelf_run, fault_halts}
use Rattle.lam_main_replay.proofs.run_text.shown_turns.Goals as goal

pub returns-in-Ok-clause-says : goal.returns-in-Ok-clause-says
returns-in-Ok-clause-says c =
    run_says c.args.code.now c.args.start (lines_for c.args.viewer.now.who c.args.viewer.now.names) c.args.turns.now (string_bytes c.keep_turns.new.kept) (Ok c.keep_turns.new.kept) refl tt c.in-Ok.ensures.ok c.in-Ok.ensures.run

pub returns-in-Err-clause-says : goal.returns-in-Err-clause-says
returns-in-Err-clause-says c =
    no_run_says c.args.code.now c.args.start (lines_for c.args.viewer.now.who c.args.viewer.now.names) c.args.turns.now c.run_halt.result
    (fault_halts c.in-Err.fault c.run_halt.result (stopped_at c.args.code.now c.args.turns.now c.args.start) c.in-Err.ensures.stops c.run_halt.ensures)

pub returns-in-Err-clause-no_fault : goal.returns-in-Err-clause-no_fault
returns-in-Err-clause-no_fault c =
    let stop = stopped_at c.args.code.now c.args.turns.now c.args.start in
    no_shelf_run c.run_halt.result stop (fault_halts c.in-Err.fault c.run_halt.result stop c.in-Err.ensures.stops c.run_halt.ensures)
