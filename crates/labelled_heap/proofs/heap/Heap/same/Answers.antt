use Rattle.std.proofs.Common.{◌≡◌, true}
use Rattle.labelled_heap.specs.declared.heap.Thing.{Thing}
use Rattle.labelled_heap.specs.Seen.{things_in}
use Rattle.labelled_heap.proofs.RowLemmas.{things_alike, rows_alike}
use Rattle.labelled_heap.proofs.ThingLemmas.{same_heaps, heaps_same}
use Rattle.labelled_heap.proofs.heap.Heap.same.Goals as goal

pub returns-then-same : goal.returns-then-same
returns-then-same c =
    let a = c.self.inside.rows in
    let b = c.other.inside.rows in (
      λ t. same_heaps (things_in a.entries) (things_in b.entries) c.self.inside.counters c.other.inside.counters c.args.self.now c.args.other.now c.self.view_is c.other.view_is (c.same.ensures.0 c.if-same.true)
          (things_alike (λ (t u : Thing). t ≡ u) (λ _. true) a.entries b.entries c.self.invariant.kept.unique c.other.invariant.kept.unique (c.same_maps.ensures.0 t)),
      λ e. c.same_maps.ensures.1 (rows_alike (λ (t u : Thing). t ≡ u) (λ _. true) a b c.self.invariant.kept c.other.invariant.kept
          (heaps_same (things_in a.entries) (things_in b.entries) c.self.inside.counters c.other.inside.counters c.args.self.now c.args.other.now c.self.view_is c.other.view_is e)),
    )
