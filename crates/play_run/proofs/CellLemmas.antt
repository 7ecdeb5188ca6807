-- writes at numbers of cells, and the cells of a script
use Rattle.std.proofs.Common.{◌≡◌, ℕ, zero, suc, ℤ, ◌+◌, ◌<◌, ◌≤◌, List, [], ◌∷◌, ◌++◌, length, take, get_or, refl, sym, ap, ◌∙◌, arith}
use Rattle.std.proofs.lemmas.List.{take_more}
use Rattle.flow_labels.specs.declared.Label.{Label}
use Rattle.labelled_heap.specs.declared.cells.Cell.{Cell}
use Rattle.labelled_heap.specs.CellAt.{with_value}
use Rattle.play_script.specs.declared.Cell.{Cell as Declared}
use Rattle.play_run.specs.Steps.{held}

-- no cell has the number
pub with_value-past : (cs : List Cell) (n : ℕ) (v : ℤ) → length cs ≤ n → with_value cs n v ≡ cs
with_value-past [] n v past = refl
with_value-past (c ∷ cs) zero v past = absurd (omega arith)
with_value-past (c ∷ cs) (suc n) v past = ap (λ rest. c ∷ rest) (with_value-past cs n v (omega arith))

held-append : (cs : List Declared) (c : Declared) → held (cs ++ c ∷ []) ≡ held cs ++ record { label = c.label; value = c.value } ∷ []
held-append [] c = refl
held-append (d ∷ cs) c = ap (λ rest. record { label = d.label; value = d.value } ∷ rest) (held-append cs c)

-- one cell more
pub held-take : (cs : List Declared) (i : ℕ) (c : Declared) (old new : List Cell) (l : Label) (v : ℤ) → new ≡ old ++ record { label = l; value = v } ∷ [] → old ≡ held (take i cs) → l ≡ c.label → v ≡ c.value → i < length cs → c ≡ get_or cs i c → new ≡ held (take (i + 1) cs)
held-take cs i c old new l v add so_far labels values less is =
    add
    ∙ (λ j. so_far j ++ record { label = labels j; value = values j } ∷ [])
    ∙ ap (λ d. held (take i cs) ++ record { label = d.label; value = d.value } ∷ []) is
    ∙ sym (ap held (take_more cs i c less) ∙ held-append (take i cs) (get_or cs i c))
