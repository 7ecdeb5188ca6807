use Rattle.std.proofs.Common.{◌≡◌}
use Rattle.lam_machine_effects.specs.declared.stores.Stores.{Stores}
use Rattle.lam_machine_effects.specs.Parts.{stores_of}
use Rattle.lam_machine_terms.specs.Views.{shown}
use Rattle.pair_check.proofs.WorldLemmas.{as_read, things_by}
use Rattle.pair_check.proofs.stores.same_things.Goals as goal

pub returns : goal.returns
returns c =
    things_by c.args.observer.now c.args.a.now c.args.b.now c.things_alike.result
    (as_read (λ (s t : Stores). (shown c.args.observer.now s.heap.slots ≡ shown c.args.observer.now t.heap.slots) × (shown c.args.observer.now s.monitors ≡ shown c.args.observer.now t.monitors)) c.things_alike.result
    c.stores.result.now c.stores-2.result.now (stores_of c.args.a.now) (stores_of c.args.b.now) c.stores.ensures c.stores-2.ensures c.things_alike.ensures)
