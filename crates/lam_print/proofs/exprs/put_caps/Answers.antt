use Rattle.std.proofs.Common.{arith}
use Rattle.lam_print.proofs.Steps.{listed_more, listed_last}
use Rattle.lam_print.proofs.Views.{caps-listed}
use Rattle.lam_print.proofs.exprs.put_caps.Goals as goal

pub loop-i-preserved : goal.loop-i-preserved
loop-i-preserved c = listed_more caps-listed c.args.caps.now c.loop-i.i c.index-caps-i.result c.loop-i-test.true c.index-caps-i.is c.in_ok-put_comma.ensures c.in_ok-put_cap.ensures c.loop-i.invariant

pub returns : goal.returns
returns c = listed_last caps-listed c.args.caps.now c.loop-i.i (omega (arith, c.loop-i-test.false)) c.loop-i.invariant
