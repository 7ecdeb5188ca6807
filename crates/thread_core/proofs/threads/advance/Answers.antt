use Rattle.std.proofs.Common.{sym}
use Rattle.thread_core.proofs.Cases.{found_ask, turn_asked, asked_stays}
use Rattle.thread_core.proofs.threads.advance.Goals as goal

pub returns-in-Some-clause-turn : goal.returns-in-Some-clause-turn
returns-in-Some-clause-turn c =
    let asks = found_ask c.code.result.now c.args.code.now c.args.thread.now c.in_ok-ask.field-0 c.in-Some.ask c.code.ensures.code c.requires.finds c.in_ok-ask.ensures.finds c.in-Some.is in
    sym (turn_asked c.args.code.now c.args.thread.now.contexts c.in-Some.ask asks)

pub returns-in-Some-clause-ok : goal.returns-in-Some-clause-ok
returns-in-Some-clause-ok c =
    let asks = found_ask c.code.result.now c.args.code.now c.args.thread.now c.in_ok-ask.field-0 c.in-Some.ask c.code.ensures.code c.requires.finds c.in_ok-ask.ensures.finds c.in-Some.is in
    sym (asked_stays c.args.code.now c.args.thread.now c.in-Some.ask asks)
