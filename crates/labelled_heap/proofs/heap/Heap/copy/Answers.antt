use Rattle.labelled_heap.proofs.RowLemmas.{kept_rows, kept_sound}
use Rattle.labelled_heap.proofs.heap.Heap.copy.Goals as goal

pub invariant_of-result : goal.invariant_of-result
invariant_of-result c =
    kept_sound c.self.inside.rows c.in_ok-rows.rows c.self.inside.counters c.args.self.now c.self.invariant c.self.view_is c.in_ok-counters.counters
    c.in_ok-rows.ensures.rows c.in_ok-rows.ensures.same c.in_ok-counters.ensures

pub returns : goal.returns
returns c =
    kept_rows c.self.inside.rows c.in_ok-rows.rows c.self.inside.counters c.args.self.now c.self.invariant c.self.view_is c.in_ok-counters.counters
    c.in_ok-rows.ensures.rows c.in_ok-rows.ensures.same c.in_ok-counters.ensures
