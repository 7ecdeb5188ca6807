use Rattle.std.proofs.Common.{arith}
use Rattle.lam_print.proofs.Steps.{listed_more, listed_last}
use Rattle.lam_print.proofs.Views.{vars-listed}
use Rattle.lam_print.proofs.exprs.put_vars.Goals as goal

pub loop-i-preserved : goal.loop-i-preserved
loop-i-preserved c = listed_more vars-listed c.args.vars.now c.loop-i.i c.index-vars-i.result c.loop-i-test.true c.index-vars-i.is c.in_ok-put_comma.ensures c.in_ok-put_var.ensures c.loop-i.invariant

pub returns : goal.returns
returns c = listed_last vars-listed c.args.vars.now c.loop-i.i (omega (arith, c.loop-i-test.false)) c.loop-i.invariant
