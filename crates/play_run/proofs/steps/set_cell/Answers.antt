use Rattle.std.proofs.Common.{◌≤◌, length, sym, arith}
use Rattle.play_run.proofs.CellLemmas.{with_value-past}
use Rattle.play_run.proofs.steps.set_cell.Goals as goal

pub returns-else-number-from : goal.returns-else-number-from
returns-else-number-from c =
    let past : length c.args.cells.now ≤ c.args.number = omega (arith, c.count.ensures.count) in
    sym (with_value-past c.args.cells.now c.args.number c.args.value past)
