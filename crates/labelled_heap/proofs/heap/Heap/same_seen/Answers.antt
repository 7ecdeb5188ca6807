use Rattle.std.proofs.Common.{◌≡◌}
use Rattle.lam_value.specs.Flow.{flows}
use Rattle.labelled_heap.specs.declared.heap.Thing.{Thing}
use Rattle.labelled_heap.specs.Seen.{things_in}
use Rattle.labelled_heap.proofs.RowLemmas.{things_alike, rows_alike}
use Rattle.labelled_heap.proofs.ThingLemmas.{same_where, where_same}
use Rattle.labelled_heap.proofs.heap.Heap.same_seen.Goals as goal

pub returns : goal.returns
returns c =
    let a = c.self.inside.rows in
    let b = c.other.inside.rows in (
      λ t. same_where (things_in a.entries) (things_in b.entries) c.self.inside.counters c.other.inside.counters c.args.self.now c.args.other.now c.self.view_is c.other.view_is (λ n. flows n.own c.args.observer.now)
          (things_alike (λ (t u : Thing). t.slots ≡ u.slots) (λ h. flows h.own c.args.observer.now) a.entries b.entries c.self.invariant.kept.unique c.other.invariant.kept.unique (c.same_maps.ensures.0 t)),
      λ same. c.same_maps.ensures.1 (rows_alike (λ (t u : Thing). t.slots ≡ u.slots) (λ h. flows h.own c.args.observer.now) a b c.self.invariant.kept c.other.invariant.kept
          (where_same (things_in a.entries) (things_in b.entries) c.self.inside.counters c.other.inside.counters c.args.self.now c.args.other.now c.self.view_is c.other.view_is (λ n. flows n.own c.args.observer.now) same)),
    )
