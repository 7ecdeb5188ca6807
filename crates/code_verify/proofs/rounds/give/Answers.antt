use Rattle.code_verify.proofs.Handing.{give_first, give_second}
use Rattle.code_verify.proofs.rounds.give.Goals as goal

pub returns-in-Err-clause-err : goal.returns-in-Err-clause-err
returns-in-Err-clause-err c = give_first _ _ _ _ _ _ c.in-Two.is c.in-Err.ensures.err

pub returns-in-Err-into-clause-err : goal.returns-in-Err-into-clause-err
returns-in-Err-into-clause-err c = give_second _ _ _ _ _ _ _ c.in-Two.is c.in-Ok.ensures.ok c.in-Err-into.ensures.err
