use Rattle.std.proofs.Common.{◌≡◌, Some}
use Rattle.lam_machine_effects.specs.declared.stores.Stores.{Stores}
use Rattle.lam_machine_effects.specs.Parts.{stores_of}
use Rattle.lam_machine_terms.specs.Views.{where_public}
use Rattle.pair_check.proofs.WorldLemmas.{as_read, tags_by}
use Rattle.pair_check.proofs.stores.same_tags.Goals as goal

pub returns : goal.returns
returns c =
    tags_by c.args.observer.now c.args.a.now c.args.b.now c.tags_alike.result
    (as_read (λ (s t : Stores). (s.names ≡ t.names) × (where_public c.args.observer.now (Some s.tags) ≡ where_public c.args.observer.now (Some t.tags))) c.tags_alike.result
    c.stores.result.now c.stores-2.result.now (stores_of c.args.a.now) (stores_of c.args.b.now) c.stores.ensures c.stores-2.ensures c.tags_alike.ensures)
