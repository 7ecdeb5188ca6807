use Rattle.std.proofs.Common.{◌≡◌}
use Rattle.lam_machine_effects.specs.declared.stores.Stores.{Stores}
use Rattle.lam_machine_effects.specs.Parts.{stores_of}
use Rattle.lam_machine_terms.specs.Views.{shown}
use Rattle.pair_check.proofs.WorldLemmas.{as_read}
use Rattle.pair_check.proofs.stores.same_pipes.Goals as goal

pub returns : goal.returns
returns c =
    as_read (λ (s t : Stores). shown c.args.observer.now s.pipes.waiting ≡ shown c.args.observer.now t.pipes.waiting) c.pipes_alike.result
    c.stores.result.now c.stores-2.result.now (stores_of c.args.a.now) (stores_of c.args.b.now) c.stores.ensures c.stores-2.ensures c.pipes_alike.ensures
