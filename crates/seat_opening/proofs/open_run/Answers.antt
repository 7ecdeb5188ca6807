use Rattle.seat_opening.proofs.Opening.{code_opened, code_refused, no_code_no_run}
use Rattle.seat_opening.proofs.open_run.Goals as goal

pub returns-in-Ok-clause-opened : goal.returns-in-Ok-clause-opened
returns-in-Ok-clause-opened c = code_opened c.args.program.now c.args.world.now c.in-Ok.code c.in-Ok.ensures.run c.run_code.result c.run_code.ensures.opened

pub returns-in-Ok-clause-refused : goal.returns-in-Ok-clause-refused
returns-in-Ok-clause-refused c = code_refused c.args.program.now c.args.world.now c.in-Ok.code c.in-Ok.ensures.run c.run_code.result c.run_code.ensures.refused

pub returns-in-Err-clause-refused : goal.returns-in-Err-clause-refused
returns-in-Err-clause-refused c = no_code_no_run c.args.program.now c.args.world.now c.in-Err.fault c.in-Err.ensures.refused
