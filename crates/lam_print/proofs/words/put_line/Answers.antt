use Rattle.std.proofs.Common.{arith}
use Rattle.lam_print.proofs.Writing.{indent_first, indent_more, indent_last}
use Rattle.lam_print.proofs.words.put_line.Goals as goal

pub loop-i-init : goal.loop-i-init
loop-i-init c = indent_first _ _

pub loop-i-preserved : goal.loop-i-preserved
loop-i-preserved c = indent_more _ _ c.loop-i-test.true c.in_ok-put-2.ensures c.loop-i.invariant

pub returns : goal.returns
returns c = indent_last _ _ (omega (arith, c.loop-i-test.false)) c.in_ok-put.ensures c.loop-i.invariant
