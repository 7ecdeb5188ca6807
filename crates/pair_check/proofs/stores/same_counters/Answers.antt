use Rattle.std.proofs.Common.{◌≡◌}
use Rattle.lam_machine_effects.specs.declared.stores.Stores.{Stores}
use Rattle.lam_machine_effects.specs.Parts.{stores_of}
use Rattle.lam_machine_terms.specs.Views.{shown_counts}
use Rattle.pair_check.proofs.WorldLemmas.{as_read, counters_by}
use Rattle.pair_check.proofs.stores.same_counters.Goals as goal

pub returns : goal.returns
returns c =
    counters_by c.args.observer.now c.args.a.now c.args.b.now c.counters_alike.result
    (as_read (λ (s t : Stores). (shown_counts c.args.observer.now s.heap.counts ≡ shown_counts c.args.observer.now t.heap.counts) × ((shown_counts c.args.observer.now s.files.counts ≡ shown_counts c.args.observer.now t.files.counts) × (shown_counts c.args.observer.now s.pipes.counts ≡ shown_counts c.args.observer.now t.pipes.counts))) c.counters_alike.result
    c.stores.result.now c.stores-2.result.now (stores_of c.args.a.now) (stores_of c.args.b.now) c.stores.ensures c.stores-2.ensures c.counters_alike.ensures)
