use Rattle.std.proofs.Common.{rules, ap, length, arith, length-append}
use Rattle.labelled_heap.specs.declared.cells.Cell.{Cell}
use Rattle.play_run.proofs.CellLemmas.{held-take}
use Rattle.play_run.proofs.steps.cells_of.Goals as goal

pub loop-cell-preserved : goal.loop-cell-preserved
loop-cell-preserved c =
    record {
      cells = held-take c.args.declared.now c.loop-cell.cell-index c.cell-item.result _ _ _ _ c.in_ok-add.ensures.ok.1 c.loop-cell.invariant.cells c.in_ok-copy.ensures (search rules) c.loop-cell-test.true c.cell-item.is;
      count = omega (arith, ap length c.in_ok-add.ensures.ok.1, length-append {A = Cell});
    }
