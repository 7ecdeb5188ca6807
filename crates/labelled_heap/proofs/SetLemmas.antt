-- A write at a cell's number, in the list of cells.
use Rattle.std.proofs.Common.{◌≡◌, ℕ, zero, suc, ℤ, ◌<◌, List, [], ◌∷◌, length, get_or, set, refl, ap, arith}
use Rattle.labelled_heap.specs.declared.cells.Cell.{Cell}
use Rattle.labelled_heap.specs.CellAt.{with_value}

pub set_value : (cs : List Cell) (n : ℕ) (x : Cell) (v w : ℤ) → n < length cs → x ≡ get_or cs n x → w ≡ v → set cs n (record { label = x.label; value = w }) ≡ with_value cs n v
set_value [] n x v w less is same = absurd (omega arith)
set_value (c ∷ cs) zero x v w less is same = rw (is, same) refl
set_value (c ∷ cs) (suc n) x v w less is same = ap (λ rest. c ∷ rest) (set_value cs n x v w (omega arith) is same)
