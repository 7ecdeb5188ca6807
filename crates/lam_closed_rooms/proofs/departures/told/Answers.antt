use Rattle.lam_machine_runs.specs.Stops.{stopped_at}
use Rattle.lam_closed_plan.specs.Checks.{IsOfDeparture}
use Rattle.lam_closed_rooms.proofs.CheckLemmas.{departure_says, no_run_says, no_shelf_run}
use Rattle.lam_closed_rooms.proofs.departures.told.Goals as goal

pub returns-in_ok-line_of-in-Ok-clause-says : goal.returns-in_ok-line_of-in-Ok-clause-says
returns-in_ok-line_of-in-Ok-clause-says c =
    departure_says c.args.code.now c.args.start c.args.base.now c.args.turns.now c.in_ok-line_of-in-Ok.field-0 c.in-Ok.departure c.in-Ok.ensures.ok c.in_ok-line_of-in-Ok.ensures c.in-Ok.ensures.run

pub returns-in-Err-clause-says : goal.returns-in-Err-clause-says
returns-in-Err-clause-says c =
    no_run_says (IsOfDeparture c.args.code.now c.args.start c.args.base.now c.args.turns.now) c.in-Err.fault c.run_halt.result (stopped_at c.args.code.now c.args.turns.now c.args.start) c.in-Err.ensures.stops c.run_halt.ensures

pub returns-in-Err-clause-no_fault : goal.returns-in-Err-clause-no_fault
returns-in-Err-clause-no_fault c = no_shelf_run c.in-Err.fault c.run_halt.result c.run_halt.ensures
