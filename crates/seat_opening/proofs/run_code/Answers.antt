use Rattle.seat_opening.proofs.Opening.{start_opened, is_seated, without_memory}
use Rattle.seat_opening.proofs.run_code.Goals as goal

pub returns-in-Ok-clause-opened : goal.returns-in-Ok-clause-opened
returns-in-Ok-clause-opened c = start_opened c.args.code c.args.world.now c.in-Ok.start c.in-Ok.ensures.start c.shared_or_none.result c.shared_or_none.ensures.shares

pub returns-in-Ok-clause-seat : goal.returns-in-Ok-clause-seat
returns-in-Ok-clause-seat c = is_seated c.args.code c.in-Ok.start c.shared_or_none.result c.shared_or_none.ensures.shares

pub returns-in-Ok-clause-refused : goal.returns-in-Ok-clause-refused
returns-in-Ok-clause-refused c = without_memory c.args.code c.args.world.now c.shared_or_none.result c.shared_or_none.ensures.err
