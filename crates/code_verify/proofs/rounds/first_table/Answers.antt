use Rattle.std.proofs.Common.{ap, length}
use Rattle.code_verify.proofs.Handing.{first_stops, catch_stops}
use Rattle.code_verify.proofs.rounds.first_table.Goals as goal

pub returns-in-Err-into-clause-err : goal.returns-in-Err-into-clause-err
returns-in-Err-into-clause-err c =
    first_stops c.args.unit.now _ _ _ c.in-Err-into.fault (ap length c.as_slice.ensures) c.in-Ok.ensures.ok c.in-Ok-entry.ensures c.in-Err-into.ensures.err

pub returns-in-Err-catch-clause-err : goal.returns-in-Err-catch-clause-err
returns-in-Err-catch-clause-err c =
    catch_stops c.args.unit.now _ _ _ _ c.in-Err-catch.fault (ap length c.as_slice.ensures) c.in-Ok.ensures.ok c.in-Ok-entry.ensures c.in-Ok-into.ensures.ok c.in-Err-catch.ensures.err
