use Rattle.std.proofs.Common.{ap}
use Rattle.lam_machine_effects.specs.declared.stores.Stores.{Stores}
use Rattle.lam_machine_equal.proofs.WorldParts.{stores_same}
use Rattle.lam_machine_equal.proofs.worlds.same_stores.Goals as goal

pub returns-then-same_tags : goal.returns-then-same_tags
returns-then-same_tags c =
    let p = c.same_tags.ensures.0 c.if-same_tags.true in (
      λ t. let q = c.same_things.ensures.0 t in stores_same c.args.a.now c.args.b.now p.0 p.1.0 p.1.1 q.0 q.1.0 q.1.1.0 q.1.1.1,
      λ e. c.same_things.ensures.1 (ap (λ (s : Stores). s.heap) e, (ap (λ (s : Stores). s.monitors) e, (ap (λ (s : Stores). s.files) e, ap (λ (s : Stores). s.pipes) e))),
    )
