use Rattle.lam_main_next.proofs.EndingLemmas.{saved_offered, not_saved_offered, no_shelf_save}
use Rattle.lam_main_next.proofs.run_end.end_of_run.Goals as goal

pub returns-in_ok-told-in-Ok-clause-offers : goal.returns-in_ok-told-in-Ok-clause-offers
returns-in_ok-told-in-Ok-clause-offers c =
    saved_offered c.args.old.now c.args.run.start.names c.args.run.start.public c.args.run.world.files c.in-Ok.saved c.in_ok-told-in-Ok.field-0 c.in-Ok.ensures.ok c.in_ok-told-in-Ok.ensures

pub returns-in-Err-clause-offers : goal.returns-in-Err-clause-offers
returns-in-Err-clause-offers c =
    not_saved_offered c.args.old.now c.args.run.start.names c.args.run.start.public c.args.run.world.files c.in-Err.fault c.save_halt.result c.in-Err.ensures.err c.save_halt.ensures

pub returns-in-Err-clause-no_fault : goal.returns-in-Err-clause-no_fault
returns-in-Err-clause-no_fault c = no_shelf_save c.in-Err.fault c.save_halt.result c.save_halt.ensures
