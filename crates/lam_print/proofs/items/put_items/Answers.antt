use Rattle.std.proofs.Common.{◌∙◌, ◌∷◌, arith}
use Rattle.lam_print.specs.Pieces.{line}
use Rattle.lam_print.proofs.Steps.{said, listed_more, listed_last}
use Rattle.lam_print.proofs.Views.{items-listed}
use Rattle.lam_print.proofs.items.put_items.Goals as goal

pub loop-i-preserved : goal.loop-i-preserved
loop-i-preserved c = listed_more items-listed c.args.items.now c.loop-i.i c.index-items-i.result c.loop-i-test.true c.index-items-i.is c.in_ok-put_gap.ensures (record { gives = λ ps. c.in_ok-put_item.ensures.gives (line 0 ∷ ps) ∙ said _ _ c.in_ok-put.ensures _ }) c.loop-i.invariant

pub returns : goal.returns
returns c = listed_last items-listed c.args.items.now c.loop-i.i (omega (arith, c.loop-i-test.false)) c.loop-i.invariant
