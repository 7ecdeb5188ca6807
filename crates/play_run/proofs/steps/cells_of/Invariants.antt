use Rattle.std.proofs.Common.{◌≡◌, take, length}
use Rattle.play_run.specs.Steps.{held}
use Rattle.play_run.proofs.steps.cells_of.Given as goal

abbrev pub invariant-loop-cell : goal.invariant-loop-cell
invariant-loop-cell l = record { cells : l.cells ≡ held (take l.cell-index l.declared); count : length l.cells ≡ l.cell-index }
