use Rattle.closed_run.proofs.DepartLemmas.{rest_ok, rest_run, rest_stops}
use Rattle.closed_run.proofs.departures.first_departure.Goals as goal

pub returns-in-Ok-clause-ok : goal.returns-in-Ok-clause-ok
returns-in-Ok-clause-ok c = rest_ok c.args.base.now c.args.code.now c.args.start c.args.turns.now c.in-Ok.taken c.follow.new.world c.in-Ok.ensures c.take_rest.result c.take_rest.ensures.ok

pub returns-in-Ok-clause-run : goal.returns-in-Ok-clause-run
returns-in-Ok-clause-run c = rest_run c.args.base.now c.args.code.now c.args.start c.args.turns.now c.in-Ok.taken c.follow.new.world c.in-Ok.ensures c.take_rest.result c.take_rest.ensures.run

pub returns-in-Ok-clause-stops : goal.returns-in-Ok-clause-stops
returns-in-Ok-clause-stops c = rest_stops c.args.base.now c.args.code.now c.args.start c.args.turns.now c.in-Ok.taken c.follow.new.world c.in-Ok.ensures c.take_rest.result c.take_rest.ensures.stops
