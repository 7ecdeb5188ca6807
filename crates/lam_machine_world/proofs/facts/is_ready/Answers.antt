use Rattle.std.proofs.Common.{refl, sym}
use Rattle.lam_machine_rows.specs.Parts.{world_of}
use Rattle.lam_machine_world.proofs.facts.is_ready.Goals as goal

pub returns : goal.returns
returns c =
    let w = world_of c.args.stores.now c.args.threads.now in
    c.is_ready.ensures w c.args.c.now refl (sym c.acting-who.ensures) (c.joins_living-living.ensures w refl)
