use Rattle.code_verify.proofs.Handing.{caught_stops}
use Rattle.code_verify.proofs.rounds.catch.Goals as goal

pub returns-in-Err-into-clause-err : goal.returns-in-Err-into-clause-err
returns-in-Err-into-clause-err c =
    caught_stops c.args.unit.now.locals _ _ _ c.args.unit.now.kind c.args.table.now.items c.in-Ok.caught c.in-Err-into.fault c.in-Region.is c.in-Ok.ensures c.in-Err-into.ensures.err
