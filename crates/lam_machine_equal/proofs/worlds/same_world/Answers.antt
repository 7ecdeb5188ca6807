use Rattle.std.proofs.Common.{ap}
use Rattle.lam_machine_effects.specs.Worlds.{World}
use Rattle.lam_machine_equal.proofs.WorldParts.{world_same}
use Rattle.lam_machine_equal.proofs.worlds.same_world.Goals as goal

pub returns-then-same_all_stores : goal.returns-then-same_all_stores
returns-then-same_all_stores c = (
  λ t. world_same c.args.a.now c.args.b.now (c.same_all_stores.ensures.0 c.if-same_all_stores.true) (c.same_all_threads.ensures.0 t),
  λ e. c.same_all_threads.ensures.1 (ap (λ (w : World). w.threads) e),
)
