use Rattle.std.proofs.Common.{rules, ◌∙◌, ap}
use Rattle.labelled_heap.specs.CellAt.{with_value}
use Rattle.labelled_heap.proofs.SetLemmas.{set_value}
use Rattle.labelled_heap.proofs.cells.Cells.set.Goals as goal

pub returns : goal.returns
returns c =
    set_value c.self.inside.cells.items c.args.c c.index_mut-cell.result.now c.args.value _ (rw c.self.view_is c.requires) c.index_mut-cell.ensures.value (search rules)
    ∙ ap (λ cs. with_value cs c.args.c c.args.value) c.self.view_is
