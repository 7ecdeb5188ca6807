-- How many cells there are at most, and a write at a cell's number.
use Rattle.std.specs.Prelude.{ℕ, zero, suc, ℤ, List, [], ◌∷◌}
use Rattle.labelled_heap.specs.declared.cells.Cell.{Cell}

-- the most cells of a script
abbrev pub most_cells : ℕ
most_cells = 65536

-- the cells, where the value of the cell with that number is changed: the cells 5, 6 with cell 1 at 9
-- are 5, 9, and cell 2 is none of them
abbrev pub with_value : List Cell → ℕ → ℤ → List Cell
with_value [] n v = []
with_value (c ∷ cs) zero v = record c { value = v } ∷ cs
with_value (c ∷ cs) (suc n) v = c ∷ with_value cs n v
